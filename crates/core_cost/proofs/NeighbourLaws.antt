-- The two roundings of a number over a power of two.
use Rattle.std.proofs.Common.{◌≡◌, ℕ, ◌+◌, ◌/◌, ◌%◌, ◌≤◌, ◌⊎◌, true, false, zero, suc, refl, sym, ap, ◌∙◌, arith, inl, inr, ltb, eqb}
use Rattle.std.proofs.lemmas.Bool.{ltb-true, ltb-false, eqb-true, eqb-false, cond_both}
use Rattle.core_cost.specs.Saturated.{saturated}
use Rattle.core_cost.specs.Network.{half_up, cost_of_unit_sum}
use Rattle.core_cost.specs.Neighbours.{AreAround, moved_up}

-- one of two neighbours, by whether it is above the lower one
pub moved-above : (low x : ℕ) → low ≤ x → x ≤ low + 1 → moved_up low (ltb low x) ≡ x
moved-above low x h k =
    cond_both (ltb low x) (low + 1) low (λ y. y ≡ x)
    (λ t. let l = ltb-true low x t in omega arith)
    (λ f. let l = ltb-false low x f in omega arith)

pub moved-above-both : (low x other y : ℕ) → low ≤ x → x ≤ low + 1 → other ≤ y → y ≤ other + 1
    → saturated (cost_of_unit_sum (moved_up low (ltb low x)) (moved_up other (ltb other y))) ≡ saturated (cost_of_unit_sum x y)
moved-above-both low x other y h k i j =
    ap (λ v. saturated (cost_of_unit_sum v (moved_up other (ltb other y)))) (moved-above low x h k)
    ∙ ap (λ v. saturated (cost_of_unit_sum x v)) (moved-above other y i j)

-- the number of odd places is above that of the even ones where the number of places is odd
pub moved-odd : (n : ℕ) → moved_up (n / 2) (eqb (n % 2) 1) ≡ half_up n
moved-odd n =
    cond_both (eqb (n % 2) 1) (n / 2 + 1) (n / 2) (λ y. y ≡ half_up n)
    (λ t. let e = eqb-true (n % 2) 1 t in omega arith)
    (λ f. let e = eqb-false (n % 2) 1 f in elim (even_or_odd n) [ inl even ↦ omega arith | inr odd ↦ absurd (e odd) ])
  where
    even_or_odd : (n : ℕ) → (n % 2 ≡ 0) ⊎ (n % 2 ≡ 1)
    even_or_odd n = elim (eqb (n % 2) 0) as (λ b. b ≡ eqb (n % 2) 0 → (n % 2 ≡ 0) ⊎ (n % 2 ≡ 1))
        [ true ↦ λ t. inl (eqb-true (n % 2) 0 (sym t)) | false ↦ λ f. inr (let e = eqb-false (n % 2) 0 (sym f) in omega arith) ] refl

pub moved-odd-both : (n m : ℕ)
    → saturated (cost_of_unit_sum (moved_up (n / 2) (eqb (n % 2) 1)) (moved_up (m / 2) (eqb (m % 2) 1)))
    ≡ saturated (cost_of_unit_sum (half_up n) (half_up m))
moved-odd-both n m =
    ap (λ x. saturated (cost_of_unit_sum x (moved_up (m / 2) (eqb (m % 2) 1)))) (moved-odd n)
    ∙ ap (λ y. saturated (cost_of_unit_sum (half_up n) y)) (moved-odd m)

-- the deepest depth
pub around_none : (n m : ℕ) → n ≡ 0 → m ≡ 0 → AreAround n m record { low_low = 6; low_high = 12; high_low = 12; high_high = 26 }
unfolding cost_of_unit_sum
around_none zero zero h k = record { low_low = refl; low_high = refl; high_low = refl; high_high = refl }
around_none (suc n) m h k = absurd (omega arith)
around_none zero (suc m) h k = absurd (omega arith)
