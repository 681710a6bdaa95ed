-- Sums of integers by their shapes: units, fresh sums, and costs that grow with the shapes.
use Rattle.std.proofs.Common.{◌≡◌, ℕ, ◌+◌, ◌*◌, ◌-◌, ◌/◌, ◌≤◌, min, List, [], ◌∷◌, ◌++◌, length, zero, suc, refl, ap, ◌∙◌, arith, inl, inr}
use Prim.Native.Nat.{◌∣◌}
use Rattle.std.proofs.Math.Nat.{div-mul-le_self, mul-le-mul, div-zero, div-one}
use Rattle.std.proofs.lemmas.Nat.{le-div}
use Rattle.std.proofs.lemmas.Nat.Gcd.{dvd_refl, dvd-zero, dvd_trans, dvd_antisymm, le_of_dvd}
use Rattle.std.proofs.lemmas.Bool.{cases_lt}
use Rattle.core_cost.specs.declared.shape.Shape.{Shape}
use Rattle.core_cost.specs.Divisor.{common_divisor_of}
use Rattle.core_cost.specs.Network.{cost_of_sum3_over}
use Rattle.core_cost.specs.Sums.{unit_steps, first_units, second_units, cost_of_sum3, constant, fresh_sum_of, sum_within, cost_of_sum}
use Rattle.core_cost.specs.Relations.{IsShape, IsWithin, AreWithin}
use Rattle.core_cost.proofs.DivisorLaws.{IsGcd-common}
use Rattle.core_cost.proofs.Monotone.{pairs-mono, sum3_over-mono}

-- 0 divides 0 alone
zero_divides : (n : ℕ) → zero ∣ n → n ≡ 0
zero_divides n h = dvd_antisymm (dvd-zero n) h

pub common-divides_first : (a b : ℕ) → common_divisor_of a b ∣ a
common-divides_first a b = (IsGcd-common a b).0

pub common-divides_second : (a b : ℕ) → common_divisor_of a b ∣ b
common-divides_second a b = (IsGcd-common a b).1

-- the common divisor of divisors divides that of their multiples
common-divides : (a b a' b' : ℕ) → a' ∣ a → b' ∣ b → common_divisor_of a' b' ∣ common_divisor_of a b
common-divides a b a' b' h k =
    (IsGcd-common a b).2 (common_divisor_of a' b')
    (dvd_trans _ (common-divides_first a' b') h) (dvd_trans _ (common-divides_second a' b') k)

-- a lesser span in units of a multiple
quotient-mono : (x y g h : ℕ) → x ≤ y → h ∣ g → x / g ≤ y / h
quotient-mono x y zero h l d = rw (div-zero x) (omega arith)
quotient-mono x y (suc g) zero l d = let e : suc g ≡ 0 = zero_divides (suc g) d in absurd (omega arith)
quotient-mono x y (suc g) (suc h) l d =
    let small : suc h ≤ suc g = le_of_dvd (omega arith) d in
    let p : x / suc g * suc h ≤ x / suc g * suc g = mul-le-mul (omega arith) small in
    let q : x / suc g * suc g ≤ x = div-mul-le_self x (suc g) in
    le-div (x / suc g) y (suc h) (omega arith) (omega arith)

-- an integer has at most as many steps as units of any divisor of its weights
pub steps-le_units : (a : Shape) (g : ℕ) → IsShape a → g ∣ a.divisor → (g ≡ 0 → a.divisor ≡ 0) → a.steps ≤ a.span / g
steps-le_units a zero shape d z = let s = (shape.none (z refl)).0 in omega arith
steps-le_units a (suc g) shape d z =
    elim (cases_lt 0 a.divisor) [
      | inl some ↦
          let small : suc g ≤ a.divisor = le_of_dvd some d in
          let p : a.steps * suc g ≤ a.steps * a.divisor = mul-le-mul (omega arith) small in
          let w = shape.weights in
          le-div a.steps a.span (suc g) (omega arith) (omega arith)
      | inr none ↦ let s = (shape.none (omega arith)).0 in omega arith
    ]

pub zero_common_first : (a b : ℕ) → common_divisor_of a b ≡ 0 → a ≡ 0
zero_common_first a b e = zero_divides a (rw e at (common-divides_first a b))

pub zero_common_second : (a b : ℕ) → common_divisor_of a b ≡ 0 → b ≡ 0
zero_common_second a b e = zero_divides b (rw e at (common-divides_second a b))

pub sum3-mono : (a b a' b' : Shape) (c c' : ℕ) → IsShape a → IsShape b → IsWithin a a' → IsWithin b b' → c ≤ c'
    → cost_of_sum3 a b c ≤ cost_of_sum3 a' b' c'
sum3-mono a b a' b' c c' first second h k l =
    let divides = common-divides a.divisor b.divisor a'.divisor b'.divisor h.divisor k.divisor in
    sum3_over-mono a.steps b.steps c (first_units a b) (second_units a b) a'.steps b'.steps c' (first_units a' b') (second_units a' b')
    (steps-le_units a (common_divisor_of a.divisor b.divisor) first (common-divides_first a.divisor b.divisor) (zero_common_first a.divisor b.divisor))
    (steps-le_units b (common_divisor_of a.divisor b.divisor) second (common-divides_second a.divisor b.divisor) (zero_common_second a.divisor b.divisor))
    h.steps k.steps l
    (quotient-mono a.span a'.span _ _ h.span divides)
    (quotient-mono b.span b'.span _ _ k.span divides)

pub IsShape-constant : IsShape constant
IsShape-constant = record { weights = omega arith; none = λ _. (refl, refl) }

pub IsWithin-constant : IsWithin constant constant
IsWithin-constant = record { steps = omega arith; span = omega arith; divisor = dvd_refl 0 }

pub IsShape-fresh : (a b : Shape) → IsShape a → IsShape b → IsShape (fresh_sum_of a b)
IsShape-fresh a b first second = record { weights = fits; none = empty }
  where
    g : ℕ
    g = common_divisor_of a.divisor b.divisor

    fits : (fresh_sum_of a b).steps * common_divisor_of a.divisor b.divisor ≤ a.span + b.span
    fits =
        let p : (fresh_sum_of a b).steps * common_divisor_of a.divisor b.divisor ≤ (a.span + b.span) / common_divisor_of a.divisor b.divisor * common_divisor_of a.divisor b.divisor =
        mul-le-mul (omega arith) (omega arith) in
        let q = div-mul-le_self (a.span + b.span) (common_divisor_of a.divisor b.divisor) in
        omega arith

    empty : common_divisor_of a.divisor b.divisor ≡ 0 → ((fresh_sum_of a b).steps ≡ 0) × (a.span + b.span ≡ 0)
    empty e =
        let s = first.none (zero_common_first a.divisor b.divisor e) in
        let t = second.none (zero_common_second a.divisor b.divisor e) in
        (rw (e, div-zero (a.span + b.span)) (omega arith), omega arith)

pub IsWithin-fresh : (a b a' b' : Shape) → IsWithin a a' → IsWithin b b' → IsWithin (fresh_sum_of a b) (fresh_sum_of a' b')
IsWithin-fresh a b a' b' h k =
    let divides = common-divides a.divisor b.divisor a'.divisor b'.divisor h.divisor k.divisor in
    let pairs = pairs-mono a.steps b.steps a'.steps b'.steps h.steps k.steps in
    let units = quotient-mono (a.span + b.span) (a'.span + b'.span) _ _ (omega (arith, h.span, k.span)) divides in
    record { steps = lesser _ _ _ _ pairs units; span = omega (arith, h.span, k.span); divisor = divides }
  where
    lesser : (p q p' q' : ℕ) → p ≤ p' → q ≤ q' → min (p - 1) q ≤ min (p' - 1) q'
    lesser p q p' q' x y = omega arith

AreWithin-append : (xs ys : List Shape) (a b : Shape) → AreWithin xs ys → IsShape a → IsWithin a b → AreWithin (xs ++ a ∷ []) (ys ++ b ∷ [])
AreWithin-append [] [] a b h shape within = (shape, (within, tt))
AreWithin-append [] (y ∷ ys) a b h shape within = absurd h
AreWithin-append (x ∷ xs) [] a b h shape within = absurd h
AreWithin-append (x ∷ xs) (y ∷ ys) a b h shape within = (h.0, (h.1.0, AreWithin-append xs ys a b h.1.1 shape within))

length-within : (xs ys : List Shape) → AreWithin xs ys → length xs ≡ length ys
length-within [] [] h = refl
length-within [] (y ∷ ys) h = absurd h
length-within (x ∷ xs) [] h = absurd h
length-within (x ∷ xs) (y ∷ ys) h = ap suc (length-within xs ys h.1.1)

three_sums : (a b c a' b' c' : ℕ) → a ≤ a' → b ≤ b' → c ≤ c' → a + b + c ≤ a' + b' + c'
three_sums a b c a' b' c' x y z = omega arith

sum_within-mono : (d : ℕ) (xs ys : List Shape) → AreWithin xs ys → sum_within d xs ≤ sum_within d ys
sum_within-mono d [] [] h = omega arith
sum_within-mono d [] (y ∷ ys) h = absurd h
sum_within-mono d (x ∷ xs) [] h = absurd h
sum_within-mono d (a ∷ []) (a' ∷ []) h =
    sum3-mono a constant a' constant 0 0 h.0 IsShape-constant h.1.0 IsWithin-constant (omega arith)
sum_within-mono d (a ∷ []) (a' ∷ b' ∷ ys) h = absurd h.1.1
sum_within-mono d (a ∷ b ∷ xs) (a' ∷ []) h = absurd h.1.1
sum_within-mono d (a ∷ b ∷ []) (a' ∷ b' ∷ []) h =
    sum3-mono a constant a' constant b.steps b'.steps h.0 IsShape-constant h.1.0 IsWithin-constant h.1.1.1.0.steps
sum_within-mono d (a ∷ b ∷ []) (a' ∷ b' ∷ c' ∷ ys) h = absurd h.1.1.1.1
sum_within-mono d (a ∷ b ∷ c ∷ xs) (a' ∷ b' ∷ []) h = absurd h.1.1.1.1
sum_within-mono d (a ∷ b ∷ c ∷ []) (a' ∷ b' ∷ c' ∷ []) h =
    sum3-mono a b a' b' c.steps c'.steps h.0 h.1.1.0 h.1.0 h.1.1.1.0 h.1.1.1.1.1.0.steps
sum_within-mono d (a ∷ b ∷ c ∷ []) (a' ∷ b' ∷ c' ∷ d' ∷ ys) h = absurd h.1.1.1.1.1.1
sum_within-mono d (a ∷ b ∷ c ∷ e ∷ xs) (a' ∷ b' ∷ c' ∷ []) h = absurd h.1.1.1.1.1.1
sum_within-mono zero (a ∷ b ∷ c ∷ e ∷ xs) (a' ∷ b' ∷ c' ∷ e' ∷ ys) h = omega arith
sum_within-mono (suc d) (a ∷ b ∷ c ∷ e ∷ xs) (a' ∷ b' ∷ c' ∷ e' ∷ ys) h =
    let fresh = IsWithin-fresh a b a' b' h.1.0 h.1.1.1.0 in
    let shape = IsShape-fresh a b h.0 h.1.1.0 in
    three_sums _ _ _ _ _ _ fresh.steps
    (sum3-mono a b a' b' (fresh_sum_of a b).steps (fresh_sum_of a' b').steps h.0 h.1.1.0 h.1.0 h.1.1.1.0 fresh.steps)
    (sum_within-mono d (c ∷ e ∷ xs ++ (fresh_sum_of a b ∷ [])) (c' ∷ e' ∷ ys ++ (fresh_sum_of a' b' ∷ []))
    (AreWithin-append (c ∷ e ∷ xs) (c' ∷ e' ∷ ys) (fresh_sum_of a b) (fresh_sum_of a' b') h.1.1.1.1 shape fresh))

pub sum-mono : (xs ys : List Shape) → AreWithin xs ys → cost_of_sum xs ≤ cost_of_sum ys
unfolding cost_of_sum
sum-mono xs ys h = rw (length-within xs ys h) (sum_within-mono (length ys) xs ys h)

-- ---- steps of weight 1

pub IsShape-units : (n : ℕ) → IsShape (unit_steps n)
IsShape-units zero = IsShape-constant
IsShape-units (suc n) = record { weights = omega arith; none = λ e. absurd (omega arith) }

-- the common divisor is 1 where a side has a step
over_one : (n m c N M N' M' : ℕ) → N ≡ N' → M ≡ M' → cost_of_sum3_over n m c N M ≡ cost_of_sum3_over n m c N' M'
over_one n m c N M N' M' e f = ap (λ x. cost_of_sum3_over n m c x M) e ∙ ap (λ x. cost_of_sum3_over n m c N' x) f

pub sum3-units : (n m c : ℕ) → cost_of_sum3 (unit_steps n) (unit_steps m) c ≡ cost_of_sum3_over n m c n m
unfolding common_divisor_of
sum3-units zero zero c = refl
sum3-units zero (suc m) c = over_one 0 (suc m) c 0 (suc m / 1) 0 (suc m) refl (div-one (suc m))
sum3-units (suc n) zero c = over_one (suc n) 0 c (suc n / 1) 0 (suc n) 0 (div-one (suc n)) refl
sum3-units (suc n) (suc m) c = over_one (suc n) (suc m) c (suc n / 1) (suc m / 1) (suc n) (suc m) (div-one (suc n)) (div-one (suc m))
