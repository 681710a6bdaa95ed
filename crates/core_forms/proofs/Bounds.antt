-- What the meaning computes stays within the limits of the numbers.
use Rattle.std.proofs.Common.{◌≡◌, ◌^◌, ◌≤◌, ◌<◌, Bool, true, ◌&&◌, ℤ, pos, ◌+ℤ◌, ◌*ℤ◌, ◌≤ℤ◌, ◌<ℤ◌, refl, sym, ap, subst, ◌∙◌, arith, to_z, of_z}
use Rattle.std.specs.Prelude.{unsigned_abs, int_le, int_lt}
use Rattle.std.specs.Ordering.{int_eq}
use mir.Syntax.{w128}
use Rattle.std.proofs.lemmas.Int.{ints, to_z-of_z, fits_signed_from_abs}
use Rattle.order_ints.specs.declared.order_int.OrdInt.{OrdInt}
use Rattle.order_ints.specs.Truth.{Valuation}
use Rattle.order_ints.specs.OrderValue.{value_of, IsOrdered}
use Rattle.order_ints.proofs.Gains.{gains-le}
use Rattle.order_ints.proofs.Reaching.{Contains-value_of}
use Rattle.core_forms.specs.Meaning.{is_division}
use Rattle.core_forms.specs.WellFormed.{greatest_abs, HasSmallProducts, HasSmallDivisions}

-- the absolute value is at most the greatest one
pub value-abs : (σ : Valuation) (a : OrdInt) → unsigned_abs (value_of σ a) ≤ greatest_abs a
value-abs σ a = omega (arith, ints, gains-le σ a.steps)

-- a number that fits 128 bits with its sign is what its bits say
pub wide_bits : (z : ℤ) → unsigned_abs z < 2 ^ 127 → to_z w128 (of_z w128 z) ≡ z
wide_bits z h = to_z-of_z w128 z (fits_signed_from_abs w128 z (omega (arith, h)))

-- and so is each within the limits of values
pub small_bits : (z : ℤ) → unsigned_abs z < 2 ^ 100 → to_z w128 (of_z w128 z) ≡ z
small_bits z h = wide_bits z (omega (arith, h))

pub small_product : (σ : Valuation) (a b : OrdInt) (x y : ℤ) → HasSmallProducts a b → IsOrdered σ a → IsOrdered σ b → x ≡ value_of σ a → y ≡ value_of σ b → unsigned_abs x < 2 ^ 100 → unsigned_abs y < 2 ^ 100 → unsigned_abs (to_z w128 (of_z w128 x) *ℤ to_z w128 (of_z w128 y)) < 2 ^ 100
small_product σ a b x y small oa ob ex ey hx hy =
    let px : to_z w128 (of_z w128 x) ≡ value_of σ a = small_bits x hx ∙ ex in
    let py : to_z w128 (of_z w128 y) ≡ value_of σ b = small_bits y hy ∙ ey in
    let P : ℤ → ℤ → Type 0 = λ s t. unsigned_abs (s *ℤ t) < 2 ^ 100 in
    subst (λ s. P s (to_z w128 (of_z w128 y))) (sym px) (subst (P (value_of σ a)) (sym py)
    (small (value_of σ a) (value_of σ b) (Contains-value_of σ a oa) (Contains-value_of σ b ob)))

pub small_division : (σ : Valuation) (b q r : OrdInt) (x y z : ℤ) → HasSmallDivisions b q r → IsOrdered σ b → IsOrdered σ q → IsOrdered σ r → x ≡ value_of σ b → y ≡ value_of σ q → z ≡ value_of σ r → unsigned_abs x < 2 ^ 100 → unsigned_abs y < 2 ^ 100 → unsigned_abs z < 2 ^ 100 → unsigned_abs (to_z w128 (of_z w128 x) *ℤ to_z w128 (of_z w128 y) +ℤ to_z w128 (of_z w128 z)) < 2 ^ 100
small_division σ b q r x y z small ob oq or ex ey ez hx hy hz =
    let px : to_z w128 (of_z w128 x) ≡ value_of σ b = small_bits x hx ∙ ex in
    let py : to_z w128 (of_z w128 y) ≡ value_of σ q = small_bits y hy ∙ ey in
    let pz : to_z w128 (of_z w128 z) ≡ value_of σ r = small_bits z hz ∙ ez in
    let P : ℤ → ℤ → ℤ → Type 0 = λ s t u. unsigned_abs (s *ℤ t +ℤ u) < 2 ^ 100 in
    subst (λ s. P s (to_z w128 (of_z w128 y)) (to_z w128 (of_z w128 z))) (sym px) (subst (λ s. P (value_of σ b) s (to_z w128 (of_z w128 z))) (sym py) (subst (P (value_of σ b) (value_of σ q)) (sym pz)
    (small (value_of σ b) (value_of σ q) (value_of σ r) (Contains-value_of σ b ob) (Contains-value_of σ q oq) (Contains-value_of σ r or))))

le_true : (v w : ℤ) → v ≤ℤ w → int_le v w ≡ true
le_true v w h = grind (arith, ints)

lt_true : (v w : ℤ) → v <ℤ w → int_lt v w ≡ true
lt_true v w h = grind (arith, ints)

and_trues : (t u v : Bool) → u ≡ true → v ≡ true → t ≡ (t && (u && v))
and_trues true u v eu ev = sym (ap (λ b. b && v) eu ∙ ev)
and_trues _ u v eu ev = refl

-- where the rest is from 0 and below the divisor, the product plus the rest decides
pub division_from : (a b q r s : ℤ) → s ≡ b *ℤ q +ℤ r → pos 0 ≤ℤ r → r <ℤ b → int_eq a s ≡ is_division a b q r
division_from a b q r s e low high =
    ap (int_eq a) e ∙ and_trues (int_eq a (b *ℤ q +ℤ r)) (int_le (pos 0) r) (int_lt r b) (le_true (pos 0) r low) (lt_true r b high)
