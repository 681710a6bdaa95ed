-- The shapes of integers are shapes, their spans are within the limits, and trimming an integer shrinks its shape.
use Rattle.std.proofs.Common.{◌≡◌, ℕ, ◌+◌, ◌*◌, ◌<◌, ◌≤◌, ◌^◌, List, [], ◌∷◌, length, zero, suc, ℤ, pos, ◌+ℤ◌, refl, ap, subst, arith}
use Rattle.std.specs.Prelude.{unsigned_abs}
use Prim.Native.Nat.{◌∣◌}
use Rattle.std.proofs.Math.Nat.{dvd-add}
use Rattle.std.proofs.lemmas.Int.{ints}
use Rattle.std.proofs.lemmas.Nat.Gcd.{dvd_refl, dvd-zero, dvd_trans, dvd_antisymm, le_of_dvd}
use Rattle.order_ints.specs.declared.atom.Atom.{Atom}
use Rattle.order_ints.specs.declared.order_int.OrdInt.{OrdInt}
use Rattle.order_ints.specs.OrderRange.{weights, IsBounded, AreRising}
use Rattle.core_cost.specs.Divisor.{common_divisor_of}
use Rattle.core_cost.specs.Sums.{spans_of}
use Rattle.core_cost.specs.Relations.{IsShape, IsWithin, AreShapes, AreWithin, AreAtMost, PairsAreAtMost}
use Rattle.core_cost.proofs.DivisorLaws.{IsGcd-common}
use Rattle.core_cost.proofs.ShapeLaws.{common-divides_first, common-divides_second}
use Rattle.order_ints.specs.Same.{is_true, is_false, same_atom}
use Rattle.core_forms.specs.WellFormed.{AreSound, greatest_abs, abs_total}
use Rattle.core_forms.specs.Resolved.{map_steps, map_int, map_ints}
use Rattle.core_forms.specs.Trimmed.{merged_steps, raised_by, tidied_int, tidied_ints}
use Rattle.core_forms.specs.Shapes.{divisor_of, steps_of, shape_of, shapes_of, numbers_of_steps, pairs_of_steps}
use Rattle.core_forms.proofs.Tidied.{by_test, weights-map_steps, weights-merged}
use Rattle.core_forms.proofs.Kept.{sound-kept}

-- what divides both divides their common divisor
pub divides-common : (d a b : ℕ) → d ∣ a → d ∣ b → d ∣ common_divisor_of a b
divides-common d a b h k = (IsGcd-common a b).2 d h k

pub divides-first : (d a b : ℕ) → d ∣ common_divisor_of a b → d ∣ a
divides-first d a b h = dvd_trans d h (common-divides_first a b)

pub divides-second : (d a b : ℕ) → d ∣ common_divisor_of a b → d ∣ b
divides-second d a b h = dvd_trans d h (common-divides_second a b)

-- ---- each step has a multiple of the common divisor

weights-at_least : (d : ℕ) (steps : List (Atom × ℕ)) → d ∣ divisor_of steps → AreRising steps → length steps * d ≤ weights steps
weights-at_least d [] h up = omega arith
weights-at_least d (s ∷ steps) h up =
    let here : d ≤ s.1 = le_of_dvd (omega (arith, up.0)) (divides-first d s.1 (divisor_of steps) h) in
    let rest = weights-at_least d steps (divides-second d s.1 (divisor_of steps) h) up.1 in
    omega arith

none-without : (steps : List (Atom × ℕ)) → AreRising steps → divisor_of steps ≡ 0 → (length steps ≡ 0) × (weights steps ≡ 0)
none-without [] up e = (refl, refl)
none-without (s ∷ steps) up e =
    let zero_divides : zero ∣ s.1 = divides-first zero s.1 (divisor_of steps) (subst (λ (n : ℕ). n ∣ common_divisor_of s.1 (divisor_of steps)) e (dvd_refl _)) in
    let none : s.1 ≡ 0 = dvd_antisymm (dvd-zero s.1) zero_divides in
    absurd (omega (arith, up.0))

pub IsShape-of : (a : OrdInt) → AreRising a.steps → IsShape (shape_of a)
IsShape-of a up = record {
  weights = weights-at_least (divisor_of a.steps) a.steps (dvd_refl _) up;
  none = none-without a.steps up;
}

pub AreShapes-of : (ints : List OrdInt) → AreSound ints → AreShapes (shapes_of ints)
AreShapes-of [] h = tt
AreShapes-of (a ∷ ints) h = (IsShape-of a h.0.1, AreShapes-of ints h.1)

-- ---- spans

span-abs : (base : ℤ) (w : ℕ) → w ≤ unsigned_abs base + unsigned_abs (base +ℤ pos w)
span-abs base w = omega (arith, ints)

pub span-within : (a : OrdInt) → weights a.steps ≤ 2 * greatest_abs a
span-within a = omega (arith, span-abs a.base (weights a.steps))

pub span-bounded : (a : OrdInt) → IsBounded a → weights a.steps < 2 ^ 101
span-bounded a h = omega (arith, span-abs a.base (weights a.steps), h.0, h.1)

pub spans-within : (ints : List OrdInt) → spans_of (shapes_of ints) ≤ 2 * abs_total ints
spans-within [] = omega arith
spans-within (a ∷ ints) = omega (arith, span-within a, spans-within ints)

pub length-shapes : (ints : List OrdInt) → length (shapes_of ints) ≡ length ints
length-shapes [] = refl
length-shapes (a ∷ ints) = ap suc (length-shapes ints)

pub length-numbers : (ints : List OrdInt) → length (numbers_of_steps ints) ≡ length ints
length-numbers [] = refl
length-numbers (a ∷ ints) = ap suc (length-numbers ints)

pub length-pairs : (front back : List OrdInt) → length (pairs_of_steps front back) ≤ length front
length-pairs [] back = omega arith
length-pairs (a ∷ front) [] = omega arith
length-pairs (a ∷ front) (b ∷ back) = omega (arith, length-pairs front back)

-- ---- other atoms in the same places

steps-map : (f : Atom → Atom) (steps : List (Atom × ℕ)) → length (map_steps f steps) ≡ length steps
steps-map f [] = refl
steps-map f (s ∷ steps) = ap suc (steps-map f steps)

divisor-map : (f : Atom → Atom) (steps : List (Atom × ℕ)) → divisor_of (map_steps f steps) ≡ divisor_of steps
divisor-map f [] = refl
divisor-map f (s ∷ steps) = ap (λ d. common_divisor_of s.1 d) (divisor-map f steps)

-- ---- tidied steps

steps-merged : (a : Atom) (w : ℕ) (steps : List (Atom × ℕ)) → length (merged_steps a w steps) ≤ suc (length steps)
steps-merged a w [] = by_test (is_false a) [] ((a, w) ∷ []) (λ xs. length xs ≤ 1) (λ _. omega arith) (λ _. omega arith)
steps-merged a w (s ∷ steps) =
    by_test (same_atom a s.0) (merged_steps a (w + s.1) steps) ((a, w) ∷ merged_steps s.0 s.1 steps) (λ xs. length xs ≤ suc (suc (length steps)))
    (λ _. omega (arith, steps-merged a (w + s.1) steps)) (λ _. omega (arith, steps-merged s.0 s.1 steps))

-- what divides all weights divides those of the merged steps
divides-merged : (d : ℕ) (a : Atom) (w : ℕ) (steps : List (Atom × ℕ)) → d ∣ w → d ∣ divisor_of steps → d ∣ divisor_of (merged_steps a w steps)
divides-merged d a w [] h k =
    by_test (is_false a) [] ((a, w) ∷ []) (λ xs. d ∣ divisor_of xs) (λ _. dvd-zero d) (λ _. divides-common d w 0 h (dvd-zero d))
divides-merged d a w (s ∷ steps) h k =
    let here = divides-first d s.1 (divisor_of steps) k in
    let rest = divides-second d s.1 (divisor_of steps) k in
    by_test (same_atom a s.0) (merged_steps a (w + s.1) steps) ((a, w) ∷ merged_steps s.0 s.1 steps) (λ xs. d ∣ divisor_of xs)
    (λ _. divides-merged d a (w + s.1) steps (dvd-add d h here) rest)
    (λ _. divides-common d w (divisor_of (merged_steps s.0 s.1 steps)) h (divides-merged d s.0 s.1 steps here rest))

-- the tidied integer's shape is within one of these steps, this span and this divisor
record IsShrunk (a : OrdInt) (n w d : ℕ) : Type 0 where
  pub steps : length a.steps ≤ n
  pub span : weights a.steps ≤ w
  pub divisor : d ∣ divisor_of a.steps

shrunk-raised : (d : ℕ) (base : ℤ) (steps : List (Atom × ℕ)) → d ∣ divisor_of steps → IsShrunk (raised_by base steps) (length steps) (weights steps) d
shrunk-raised d base [] h = record { steps = omega arith; span = omega arith; divisor = h }
shrunk-raised d base (s ∷ steps) h =
    let here = divides-first d s.1 (divisor_of steps) h in
    let rest = divides-second d s.1 (divisor_of steps) h in
    by_test (is_true s.0) (raised_by (base +ℤ pos s.1) steps) (record { base = base; steps = merged_steps s.0 s.1 steps }) (λ a. IsShrunk a (suc (length steps)) (s.1 + weights steps) d)
    (λ _. let r = shrunk-raised d (base +ℤ pos s.1) steps rest in
    record { steps = omega (arith, r.steps); span = omega (arith, r.span); divisor = r.divisor })
    (λ _. record { steps = steps-merged s.0 s.1 steps; span = weights-merged s.0 s.1 steps; divisor = divides-merged d s.0 s.1 steps here rest })

-- ---- trimmed integers

module _ (f : Atom → Atom) where
  pub trimmed-within : (a : OrdInt) → IsWithin (shape_of (tidied_int (map_int f a))) (shape_of a)
  trimmed-within a =
      let r = shrunk-raised (divisor_of a.steps) a.base (map_steps f a.steps) (rw (divisor-map f a.steps) (dvd_refl _)) in
      record {
        steps = omega (arith, r.steps, steps-map f a.steps);
        span = omega (arith, r.span, weights-map_steps f a.steps);
        divisor = r.divisor;
      }

  pub steps-trimmed : (a : OrdInt) → steps_of (tidied_int (map_int f a)) ≤ steps_of a
  steps-trimmed a = (trimmed-within a).steps

  pub shapes-trimmed : (ints : List OrdInt) → AreSound ints → AreWithin (shapes_of (tidied_ints (map_ints f ints))) (shapes_of ints)
  shapes-trimmed [] h = tt
  shapes-trimmed (a ∷ ints) h = (IsShape-of (tidied_int (map_int f a)) (sound-kept f a h.0).1, (trimmed-within a, shapes-trimmed ints h.1))

  pub numbers-trimmed : (ints : List OrdInt) → AreAtMost (numbers_of_steps (tidied_ints (map_ints f ints))) (numbers_of_steps ints)
  numbers-trimmed [] = tt
  numbers-trimmed (a ∷ ints) = (steps-trimmed a, numbers-trimmed ints)

  pub pairs-trimmed : (front back : List OrdInt)
      → PairsAreAtMost (pairs_of_steps (tidied_ints (map_ints f front)) (tidied_ints (map_ints f back))) (pairs_of_steps front back)
  pairs-trimmed [] back = tt
  pairs-trimmed (a ∷ front) [] = tt
  pairs-trimmed (a ∷ front) (b ∷ back) = (steps-trimmed a, (steps-trimmed b, pairs-trimmed front back))
