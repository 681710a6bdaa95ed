-- What is worked out of a list of values.
use Rattle.std.proofs.Common.{◌≡◌, ℕ, zero, suc, ◌-◌, ◌^◌, ◌<◌, ◌≤◌, ℤ, ◌-ℤ◌, unsigned_abs, List, [], ◌∷◌, length, drop, get_or, Some, Option, refl, sym, ap, subst, ◌∙◌, arith}
use Rattle.std.specs.Prelude.{slice_get}
use Rattle.std.proofs.lemmas.Int.{ints}
use Rattle.core_cost.specs.declared.shape.Shape.{Shape}
use Rattle.core_cost.specs.Divisor.{common_divisor_of}
use Rattle.value_lists.specs.declared.values.Listed.{Listed}
use Rattle.value_lists.specs.ValueLists.{Ascends, different, first_of, last_behind, last_of, divisor_of, span_behind, shape_of}
use Rattle.value_lists.proofs.Different.{Ascends-different}
use Rattle.value_lists.proofs.Shapes.{span-ends, steps-listed, divisor-within}

some-same : (v w : ℤ) → Some v ≡ Some w → v ≡ w
some-same v w e = cc

last-at : (v : ℤ) (vs : List ℤ) → slice_get (v ∷ vs) (length vs) ≡ Some (last_behind v vs)
last-at v [] = refl
last-at v (w ∷ vs) = last-at w vs

-- the value at the last place is the last
pub last-is : (vs : List ℤ) (v : ℤ) → Some v ≡ slice_get vs (length vs - 1) → v ≡ last_of vs
last-is [] v h = absurd (cc)
last-is (w ∷ vs) v h =
    let place : suc (length vs) - 1 ≡ length vs = omega arith in
    some-same v (last_behind w vs) (h ∙ ap (slice_get (w ∷ vs)) place ∙ last-at w vs)

-- the shape of the values, by their ends
pub shape-made : (vs : List ℤ) (n s d : ℕ) → Ascends vs → n ≡ length vs - 1 → s ≡ unsigned_abs (last_of vs -ℤ first_of vs) → d ≡ divisor_of vs
    → ◌≡◌ {A = Shape} (record { steps = n; span = s; divisor = d }) (shape_of vs)
shape-made vs n s d up en es ed =
    let made : ℕ → ℕ → ℕ → Shape = λ n s d. record { steps = n; span = s; divisor = d } in
    let span : s ≡ (shape_of vs).span = omega (arith, ints, es, span-ends vs up) in
    ap (λ n. made n s d) (en ∙ sym (steps-listed vs)) ∙ (ap (λ s. made (shape_of vs).steps s d) span ∙ last d vs ed)
  where
    last : (d : ℕ) (vs : List ℤ) → d ≡ divisor_of vs → ◌≡◌ {A = Shape} (record { steps = (shape_of vs).steps; span = (shape_of vs).span; divisor = d }) (shape_of vs)
    last d [] e = ap (λ (d : ℕ). let s : Shape = record { steps = 0; span = 0; divisor = d } in s) e
    last d (v ∷ vs) e = ap (λ (d : ℕ). let s : Shape = record { steps = length vs; span = span_behind v vs; divisor = d } in s) e

pub divisor-small : (vs : List ℤ) (s d : ℕ) → Ascends vs → s ≡ unsigned_abs (last_of vs -ℤ first_of vs) → d ≡ divisor_of vs → s < 2 ^ 64 → d < 2 ^ 64
divisor-small vs s d up es ed h = omega (arith, ints, divisor-within vs up, span-ends vs up, es, ed, h)

-- The divisor of the gaps, from the last one on.

pub divisor-last : (vs : List ℤ) → 0 ≡ divisor_of (drop (length vs - 1) vs)
divisor-last [] = refl
divisor-last (v ∷ []) = refl
divisor-last (v ∷ w ∷ vs) =
    let place : suc (suc (length vs)) - 1 ≡ suc (suc (length vs) - 1) = omega arith in
    divisor-last (w ∷ vs) ∙ ap (λ n. divisor_of (drop n (v ∷ w ∷ vs))) (sym place)

at-more : (vs : List ℤ) (k : ℕ) (d : ℤ) → suc k < length vs → common_divisor_of (unsigned_abs (get_or vs (suc k) d -ℤ get_or vs k d)) (divisor_of (drop (suc k) vs)) ≡ divisor_of (drop k vs)
at-more [] k d h = absurd (omega arith)
at-more (v ∷ []) k d h = absurd (omega arith)
at-more (v ∷ w ∷ vs) zero d h = refl
at-more (v ∷ w ∷ vs) (suc k) d h = at-more (w ∷ vs) k d (omega arith)

pub divisor-more : (vs : List ℤ) (k g n m : ℕ) (d : ℤ) → 1 ≤ k → k < length vs → g ≡ unsigned_abs (get_or vs k d -ℤ get_or vs (k - 1) d) → m ≡ divisor_of (drop k vs) → n ≡ common_divisor_of g m → n ≡ divisor_of (drop (k - 1) vs)
divisor-more vs zero g n m d one h eg em en = absurd (omega arith)
divisor-more vs (suc k) g n m d one h eg em en =
    let back : suc k - 1 ≡ k = omega arith in
    let gap : g ≡ unsigned_abs (get_or vs (suc k) d -ℤ get_or vs k d) = eg ∙ ap (λ j. unsigned_abs (get_or vs (suc k) d -ℤ get_or vs j d)) back in
    en ∙ (ap (λ x. common_divisor_of x m) gap ∙ (ap (common_divisor_of (unsigned_abs (get_or vs (suc k) d -ℤ get_or vs k d))) em ∙ (at-more vs k d h ∙ ap (λ j. divisor_of (drop j vs)) (sym back))))

-- what is kept beside the values is that of them
pub listed-made : (xs ws : List ℤ) (d : ℕ) (l : Listed) → l ≡ record { values = ws; divisor = d } → ws ≡ different xs → d ≡ divisor_of ws → Ascends l.values × (l.divisor ≡ divisor_of l.values)
listed-made xs ws d l e w h =
    subst (λ (l : Listed). Ascends l.values × (l.divisor ≡ divisor_of l.values)) (sym e) (subst (λ vs. Ascends vs) (sym w) (Ascends-different xs), h)
