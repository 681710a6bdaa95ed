-- The units of steps: how many are true, how many there are, and where their variables are; and their sums.
use Rattle.std.proofs.Common.{◌≡◌, ℕ, zero, suc, ◌+◌, ◌*◌, ◌/◌, ◌<◌, ◌≤◌, ◌^◌, Bool, true, false, ◌&&◌, cond, List, [], ◌∷◌, ◌++◌, length, ℤ, pos, ◌+ℤ◌, refl, sym, ap, subst, ◌∙◌, arith}
use Prim.Native.Nat.{◌∣◌}
use Rattle.std.specs.Ordering.{int_eq}
use Rattle.std.specs.Prelude.{Contains}
use Rattle.std.proofs.Math.Nat.{mul-div_cancel', mul-div_cancel_left}
use Rattle.std.proofs.lemmas.Int.{ints}
use Rattle.order_ints.specs.Label.{own_labels}
use Rattle.order_ints.specs.declared.atom.Atom.{Atom}
use Rattle.order_ints.specs.Truth.{Valuation, Agree, atom_truth}
use Rattle.order_ints.specs.Place.{AtomBelow, AtomsBelow, StepsBelow}
use Rattle.order_ints.specs.OrderValue.{gains, in_order, value_of}
use Rattle.order_ints.specs.OrderRange.{weights, AreRising}
use Rattle.order_ints.specs.OrderLevels.{values_of}
use Rattle.order_ints.specs.OrderMade.{unit_range_of, unit_steps}
use Rattle.order_ints.proofs.Fresh.{atoms-unit_steps, values_of-unit_range_of, AreRising-unit_steps, StepsBelow-vars, takes_each_value, IsBounded-unit_range_of}
use Rattle.core_cost.specs.Network.{half_up, half_down, cost_of_unit_sum}
use Rattle.core_cost.specs.Sums as sums
use Rattle.core_cost.proofs.ShapeLaws.{sum3-units}
use Rattle.core_cost.proofs.NetworkLaws.{unit_sum-equation}
use Rattle.core_forms.specs.Truths.{true_count}
use Rattle.core_forms.specs.Place.{CoreBelow}
use Rattle.core_forms.specs.Meaning.{ordered, core_truth}
use Rattle.core_forms.specs.WellFormed.{IsSound, IsWellFormed, greatest_abs}
use Rattle.core_forms.specs.Shapes.{divisor_of, shape_of}
use Rattle.core_forms.specs.Cost.{cost_of}
use Rattle.core_forms.proofs.ShapeLaws.{divides-first, divides-second}
use Rattle.network_encode.specs.MergeParts.{copies, units_of, odd_places, even_places, weighted, unit_int, unit_sum}
use Rattle.network_encode.proofs.Halves.{and-left, and-right, int-same, same-int, contains-from, one-divisor, steps-unit_steps}
use Rattle.network_encode.proofs.Sorted.{Sorted, sorted-count, sorted-same, ordered-sorted, sorted-ordered, gains-weighted, weights-weighted, weighted-vars}

-- ---- weights that are multiples

-- each weight is a multiple of g
abbrev pub AreMultiples : ℕ → List (Atom × ℕ) → Type 0
AreMultiples g [] = Unit {0}
AreMultiples g (s ∷ steps) = (g ∣ s.1) × AreMultiples g steps

pub multiples-of_divisor : (g : ℕ) (steps : List (Atom × ℕ)) → g ∣ divisor_of steps → AreMultiples g steps
multiples-of_divisor g [] h = tt
multiples-of_divisor g (s ∷ steps) h =
    (divides-first g s.1 (divisor_of steps) h, multiples-of_divisor g steps (divides-second g s.1 (divisor_of steps) h))

no-copy : (t : Bool) (c : ℕ) → c ≡ cond t 0 0 + c
no-copy true c = omega arith
no-copy false c = omega arith

one-copy : (t : Bool) (n x c : ℕ) → x ≡ cond t n 0 + c → cond t (suc x) x ≡ cond t (suc n) 0 + c
one-copy true n x c e = omega (arith, e)
one-copy false n x c e = e

count-copies : (σ : Valuation) (n : ℕ) (l : Atom) (ls : List Atom) → true_count σ (copies n l ++ ls) ≡ cond (atom_truth σ l) n 0 + true_count σ ls
count-copies σ zero l ls = no-copy (atom_truth σ l) (true_count σ ls)
count-copies σ (suc n) l ls =
    one-copy (atom_truth σ l) n (true_count σ (copies n l ++ ls)) (true_count σ ls) (count-copies σ n l ls)

unit-gain : (t : Bool) (g w q c x : ℕ) → g * q ≡ w → x ≡ g * c → cond t w 0 + x ≡ g * (cond t q 0 + c)
unit-gain true g w q c x e h = omega (arith, e, h)
unit-gain false g w q c x e h = omega (arith, h)

-- the true units weigh what the true steps do
pub gains-units : (σ : Valuation) (g : ℕ) (steps : List (Atom × ℕ)) → AreMultiples g steps → gains σ steps ≡ g * true_count σ (units_of g steps)
gains-units σ g [] h = omega arith
gains-units σ g (s ∷ steps) h =
    unit-gain (atom_truth σ s.0) g s.1 (s.1 / g) (true_count σ (units_of g steps)) (gains σ steps) (mul-div_cancel' g h.0) (gains-units σ g steps h.1)
    ∙ ap (λ n. g * n) (sym (count-copies σ (s.1 / g) s.0 (units_of g steps)))

length-copies : (n : ℕ) (l : Atom) (ls : List Atom) → length (copies n l ++ ls) ≡ n + length ls
length-copies zero l ls = omega arith
length-copies (suc n) l ls = omega (arith, length-copies n l ls)

-- and all units what all steps do
pub weights-units : (g : ℕ) (steps : List (Atom × ℕ)) → AreMultiples g steps → weights steps ≡ g * length (units_of g steps)
weights-units g [] h = omega arith
weights-units g (s ∷ steps) h =
    unit-gain true g s.1 (s.1 / g) (length (units_of g steps)) (weights steps) (mul-div_cancel' g h.0) (weights-units g steps h.1)
    ∙ ap (λ n. g * n) (sym (length-copies (s.1 / g) s.0 (units_of g steps)))

pub length-units : (g : ℕ) (steps : List (Atom × ℕ)) → 0 < g → AreMultiples g steps → length (units_of g steps) ≡ weights steps / g
length-units g steps some h =
    sym (mul-div_cancel_left (length (units_of g steps)) some) ∙ ap (λ n. n / g) (sym (weights-units g steps h))

-- ---- places

copies-below : (n k : ℕ) (l : Atom) (ls : List Atom) → AtomBelow n l → AtomsBelow n ls → AtomsBelow n (copies k l ++ ls)
copies-below n zero l ls first rest = rest
copies-below n (suc k) l ls first rest = (first, copies-below n k l ls first rest)

pub units-below : (n g : ℕ) (steps : List (Atom × ℕ)) → StepsBelow n steps → AtomsBelow n (units_of g steps)
units-below n g [] below = tt
units-below n g (s ∷ steps) below = copies-below n (s.1 / g) s.0 (units_of g steps) below.0 (units-below n g steps below.1)

pub odd-below : (n : ℕ) (ls : List Atom) → AtomsBelow n ls → AtomsBelow n (odd_places ls)
odd-below n [] below = tt
odd-below n (l ∷ []) below = below
odd-below n (l ∷ m ∷ ls) below = (below.0, odd-below n ls below.1.1)

pub even-below : (n : ℕ) (ls : List Atom) → AtomsBelow n ls → AtomsBelow n (even_places ls)
even-below n [] below = tt
even-below n (l ∷ []) below = tt
even-below n (l ∷ m ∷ ls) below = (below.1.0, even-below n ls below.1.1)

pub length-odd : (ls : List Atom) → length (odd_places ls) ≡ half_up (length ls)
length-odd [] = refl
length-odd (l ∷ []) = refl
length-odd (l ∷ m ∷ ls) = omega (arith, length-odd ls)

pub length-even : (ls : List Atom) → length (even_places ls) ≡ half_down (length ls)
length-even [] = refl
length-even (l ∷ []) = refl
length-even (l ∷ m ∷ ls) = omega (arith, length-even ls)

pub weighted-below : (n w : ℕ) (ls : List Atom) → AtomsBelow n ls → StepsBelow n (weighted w ls)
weighted-below n w [] below = tt
weighted-below n w (l ∷ ls) below = (below.0, weighted-below n w ls below.1)

-- ---- integers of units

pub value-units : (σ : Valuation) (ls : List Atom) → value_of σ (unit_int ls) ≡ pos (true_count σ ls)
value-units σ ls = omega (arith, ints, gains-weighted σ 1 ls)

pub length-weighted : (w : ℕ) (ls : List Atom) → length (weighted w ls) ≡ length ls
length-weighted w [] = refl
length-weighted w (l ∷ ls) = ap suc (length-weighted w ls)

weights-ones : (ls : List Atom) → weights (weighted 1 ls) ≡ length ls
weights-ones ls = omega (arith, weights-weighted 1 ls)

pub weighted-rising : (w : ℕ) (ls : List Atom) → 1 ≤ w → AreRising (weighted w ls)
weighted-rising w [] h = tt
weighted-rising w (l ∷ ls) h = (h, weighted-rising w ls h)

shape-units : (ls : List Atom) → shape_of (unit_int ls) ≡ sums.unit_steps (length ls)
shape-units [] = refl
shape-units (l ∷ ls) = λ i. record {
  steps = length-weighted 1 (l ∷ ls) i;
  span = weights-ones (l ∷ ls) i;
  divisor = one-divisor (divisor_of (weighted 1 ls)) i;
}

-- the sum of two lists of units costs what the cost of networks counts
pub unit_sum-cost : (next : ℕ) (ls ms : List Atom) → cost_of (unit_sum next ls ms) ≡ cost_of_unit_sum (length ls) (length ms)
unit_sum-cost next ls ms =
    (λ i. sums.cost_of_sum3 (shape-units ls i) (shape-units ms i) (steps-unit_steps next (length ls + length ms) i))
    ∙ sum3-units (length ls) (length ms) (length ls + length ms)
    ∙ sym (unit_sum-equation (length ls) (length ms))

units-sound : (ls : List Atom) → length ls < 2 ^ 99 → IsSound (unit_int ls)
units-sound ls few = ((omega (arith, ints), omega (arith, ints, few, weights-ones ls)), weighted-rising 1 ls (omega arith))

units-greatest : (ls : List Atom) → greatest_abs (unit_int ls) ≤ length ls
units-greatest ls = omega (arith, ints, weights-ones ls)

pub unit_sum-formed : (next : ℕ) (ls ms : List Atom) → length ls + length ms < 2 ^ 99 → IsWellFormed (unit_sum next ls ms)
unit_sum-formed next ls ms few = (
  units-sound ls (omega (arith, few)),
  units-sound ms (omega (arith, few)),
  (IsBounded-unit_range_of (pos 0) next (length ls + length ms) (omega (arith, ints)) (omega (arith, ints, few)), AreRising-unit_steps next (length ls + length ms)),
  omega (arith, few, units-greatest ls, units-greatest ms),
)

pub unit_sum-below : (n next : ℕ) (ls ms : List Atom) → 1 ≤ next → next + (length ls + length ms) ≤ n → AtomsBelow n ls → AtomsBelow n ms → CoreBelow n (unit_sum next ls ms)
unit_sum-below n next ls ms least room bl bm = (
  tt,
  (
    weighted-below n 1 ls bl,
    (
      weighted-below n 1 ms bm,
      (
        StepsBelow-vars n next (length ls + length ms) (unit_steps next (length ls + length ms)) (atoms-unit_steps next (length ls + length ms)) (λ _. least) room,
        tt,
      ),
    ),
  ),
)

-- ---- sums of units in order

-- a fresh integer is in order exactly where its variables are, and then its value is the number of true ones
range-sorted : (σ : Valuation) (next n j : ℕ) → ordered σ (unit_range_of (pos 0) next n) ≡ true → value_of σ (unit_range_of (pos 0) next n) ≡ pos j → Sorted σ j (own_labels next n)
range-sorted σ next n j order value =
    let all = ordered-sorted σ 1 (own_labels next n) (ap (in_order σ) (sym (weighted-vars next n)) ∙ order) in
    sorted-same σ (true_count σ (own_labels next n)) j (own_labels next n)
    (omega (arith, ints, value, ap (gains σ) (weighted-vars next n), gains-weighted σ 1 (own_labels next n)))
    all

sorted-range : (σ : Valuation) (next n j : ℕ) → Sorted σ j (own_labels next n) → ordered σ (unit_range_of (pos 0) next n) ≡ true
sorted-range σ next n j h = ap (in_order σ) (weighted-vars next n) ∙ sorted-ordered σ 1 j (own_labels next n) h

sorted-value : (σ : Valuation) (next n j : ℕ) → Sorted σ j (own_labels next n) → value_of σ (unit_range_of (pos 0) next n) ≡ pos j
sorted-value σ next n j h =
    omega (arith, ints, ap (gains σ) (weighted-vars next n), gains-weighted σ 1 (own_labels next n), sorted-count σ j (own_labels next n) h)

-- three integers in order, and what their values say besides
pub all-orders : (s t u v : Bool) → s ≡ true → t ≡ true → u ≡ true → v ≡ true → ((s && (t && u)) && v) ≡ true
all-orders true true true v a b c d = d
all-orders true true false v a b c d = absurd (cc)
all-orders true false u v a b c d = absurd (cc)
all-orders false t u v a b c d = absurd (cc)

module _ (σ : Valuation) (next j k : ℕ) (ls ms : List Atom) (first : Sorted σ j ls) (second : Sorted σ k ms) where
  values-sum : value_of σ (unit_int ls) +ℤ value_of σ (unit_int ms) ≡ pos (j + k)
  values-sum =
      omega (arith, ints, value-units σ ls, value-units σ ms, sorted-count σ j ls first, sorted-count σ k ms second)

  -- where the sum of two lists in order is met, its variables are in order and as many are true as of both
  pub sum-sorted : core_truth σ (unit_sum next ls ms) ≡ true → Sorted σ (j + k) (own_labels next (length ls + length ms))
  sum-sorted met =
      let n = length ls + length ms in
      let c = unit_range_of (pos 0) next (length ls + length ms) in
      let orders = ordered σ (unit_int ls) && (ordered σ (unit_int ms) && ordered σ c) in
      let same = int_eq (value_of σ (unit_int ls) +ℤ value_of σ (unit_int ms)) (value_of σ c) in
      let order = and-right (ordered σ (unit_int ms)) (ordered σ c) (and-right (ordered σ (unit_int ls)) (ordered σ (unit_int ms) && ordered σ c) (and-left orders same met)) in
      let value : value_of σ (unit_range_of (pos 0) next (length ls + length ms)) ≡ pos (j + k) =
      sym (int-same (value_of σ (unit_int ls) +ℤ value_of σ (unit_int ms)) (value_of σ c) (and-right orders same met)) ∙ values-sum in
      range-sorted σ next n (j + k) order value

  -- and the other way round
  pub sorted-sum : Sorted σ (j + k) (own_labels next (length ls + length ms)) → core_truth σ (unit_sum next ls ms) ≡ true
  sorted-sum h =
      let n = length ls + length ms in
      let c = unit_range_of (pos 0) next (length ls + length ms) in
      all-orders (ordered σ (unit_int ls)) (ordered σ (unit_int ms)) (ordered σ c) (int_eq (value_of σ (unit_int ls) +ℤ value_of σ (unit_int ms)) (value_of σ c))
      (sorted-ordered σ 1 j ls first)
      (sorted-ordered σ 1 k ms second)
      (sorted-range σ next n (j + k) h)
      (same-int (value_of σ (unit_int ls) +ℤ value_of σ (unit_int ms)) (value_of σ c) (values-sum ∙ sym (sorted-value σ next n (j + k) h)))

-- fresh variables can be put in order with any number of true ones
pub fresh-sorted : (σ : Valuation) (next n j : ℕ) → j ≤ n → (τ : Valuation) × Agree next σ τ × Sorted τ j (own_labels next n)
fresh-sorted σ next n j few =
    let c = unit_range_of (pos 0) next n in
    let has : Contains (values_of (unit_range_of (pos 0) next n)) (pos j) =
    subst (λ (vs : List ℤ). Contains vs (pos j)) (sym (values_of-unit_range_of (pos 0) next n)) (contains-from (n + 1) j (omega (arith, few))) in
    let taken = takes_each_value σ c next n (pos j) (atoms-unit_steps next n) has in
    (taken.0, taken.1, range-sorted taken.0 next n j taken.2.0 taken.2.1)
