-- The shape of a list of values is that of the integer that has them.
use Rattle.std.proofs.Common.{◌≡◌, ℕ, suc, ◌+◌, ◌-◌, ◌*◌, ◌<◌, ◌≤◌, ℤ, pos, ◌+ℤ◌, ◌-ℤ◌, unsigned_abs, List, [], ◌∷◌, length, refl, ap, subst, ◌∙◌, arith}
use Rattle.std.proofs.lemmas.Int.{ints}
use Rattle.order_ints.specs.OrderMade.{AscendFrom, steps_between, integer_of_values}
use Rattle.order_ints.specs.OrderRange.{weights, low_of, high_of}
use Rattle.order_ints.proofs.Fresh.{AreRising-integer_of_values}
use Rattle.core_cost.specs.declared.shape.Shape.{Shape}
use Rattle.core_cost.specs.Divisor.{common_divisor_of}
use Rattle.core_cost.specs.Relations.{IsShape}
use Rattle.core_forms.specs.Shapes as integers
use Rattle.core_forms.proofs.ShapeLaws.{IsShape-of}
use Rattle.value_lists.specs.ValueLists.{Ascends, first_of, last_behind, last_of, divisor_behind, divisor_of, span_behind, shape_of}

length-between : (v : ℤ) (vs : List ℤ) (var : ℕ) → length (steps_between v vs var) ≡ length vs
length-between v [] var = refl
length-between v (w ∷ vs) var = ap suc (length-between w vs (var + 1))

weights-between : (v : ℤ) (vs : List ℤ) (var : ℕ) → weights (steps_between v vs var) ≡ span_behind v vs
weights-between v [] var = refl
weights-between v (w ∷ vs) var = ap (λ n. unsigned_abs (w -ℤ v) + n) (weights-between w vs (var + 1))

divisor-between : (v : ℤ) (vs : List ℤ) (var : ℕ) → integers.divisor_of (steps_between v vs var) ≡ divisor_behind v vs
divisor-between v [] var = refl
divisor-between v (w ∷ vs) var = ap (common_divisor_of (unsigned_abs (w -ℤ v))) (divisor-between w vs (var + 1))

pub shape-listed : (vs : List ℤ) (first : ℕ) → integers.shape_of (integer_of_values vs first) ≡ shape_of vs
shape-listed [] first = refl
shape-listed (v ∷ vs) first =
    let made : ℕ → ℕ → ℕ → Shape = λ n s d. record { steps = n; span = s; divisor = d } in
    ap (λ n. made n (weights (steps_between v vs first)) (integers.divisor_of (steps_between v vs first))) (length-between v vs first)
    ∙ ap (λ s. made (length vs) s (integers.divisor_of (steps_between v vs first))) (weights-between v vs first)
    ∙ ap (λ d. made (length vs) (span_behind v vs) d) (divisor-between v vs first)

-- where the values ascend, it is the shape of an integer
pub IsShape-listed : (vs : List ℤ) → Ascends vs → IsShape (shape_of vs)
IsShape-listed vs h = subst IsShape (shape-listed vs 1) (IsShape-of (integer_of_values vs 1) (AreRising-integer_of_values vs 1 h))

-- the gaps lead from the first value to the last
pub span-reaches : (v : ℤ) (vs : List ℤ) → AscendFrom v vs → v +ℤ pos (span_behind v vs) ≡ last_behind v vs
span-reaches v [] h = omega (arith, ints)
span-reaches v (w ∷ vs) h = omega (arith, ints, h.0, span-reaches w vs h.1)

pub span-ends : (vs : List ℤ) → Ascends vs → first_of vs +ℤ pos (shape_of vs).span ≡ last_of vs
span-ends [] h = omega (arith, ints)
span-ends (v ∷ vs) h = span-reaches v vs h

-- there are no more values than their span has numbers
few-behind : (v : ℤ) (vs : List ℤ) → AscendFrom v vs → length vs ≤ span_behind v vs
few-behind v [] h = omega arith
few-behind v (w ∷ vs) h = omega (arith, ints, h.0, few-behind w vs h.1)

pub steps-within : (vs : List ℤ) → Ascends vs → (shape_of vs).steps ≤ (shape_of vs).span
steps-within [] h = omega arith
steps-within (v ∷ vs) h = few-behind v vs h

-- the common divisor is no greater than the span
pub divisor-within : (vs : List ℤ) → Ascends vs → divisor_of vs ≤ (shape_of vs).span
divisor-within [] h = omega arith
divisor-within (v ∷ []) h = omega arith
divisor-within (v ∷ w ∷ vs) h =
    let many = (IsShape-listed (v ∷ w ∷ vs) h).weights in
    let one = times-more (length vs) (divisor_behind v (w ∷ vs)) in
    omega (arith, many, one)
  where
    times-more : (n d : ℕ) → d ≤ suc n * d
    times-more n d = omega arith

-- the least and the greatest value of the integer are the first and the last
pub low-listed : (vs : List ℤ) (first : ℕ) → low_of (integer_of_values vs first) ≡ first_of vs
low-listed [] first = refl
low-listed (v ∷ vs) first = refl

pub high-listed : (vs : List ℤ) (first : ℕ) → Ascends vs → high_of (integer_of_values vs first) ≡ last_of vs
high-listed [] first h = omega (arith, ints)
high-listed (v ∷ vs) first h = ap (λ n. v +ℤ pos n) (weights-between v vs first) ∙ span-reaches v vs h

-- its steps are one fewer than the values
pub steps-listed : (vs : List ℤ) → (shape_of vs).steps ≡ length vs - 1
steps-listed [] = omega arith
steps-listed (v ∷ vs) = omega arith
