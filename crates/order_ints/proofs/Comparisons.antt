-- Tests on signed numbers, and cases on them.
use Rattle.std.proofs.Common.{◌≡◌, true, false, cond, ℤ, ◌≤ℤ◌, ◌<ℤ◌, refl, arith}
use Rattle.std.specs.Prelude.{int_le}
use Rattle.std.proofs.lemmas.Int.{ints}

pub int_le-true : (v w : ℤ) → v ≤ℤ w → int_le v w ≡ true
int_le-true v w h = grind (arith, ints)

pub int_le-false : (v w : ℤ) → w <ℤ v → int_le v w ≡ false
int_le-false v w h = grind (arith, ints)

pub le_from_test : (v w : ℤ) → int_le v w ≡ true → v ≤ℤ w
le_from_test v w h = grind (arith, ints)

pub lt_from_test : (v w : ℤ) → int_le v w ≡ false → w <ℤ v
lt_from_test v w h = grind (arith, ints)

-- a choice by a test on signed numbers, case by case
pub by_int_le : {X : Type 0} (v w : ℤ) (x y : X) (P : X → Type 0) → (v ≤ℤ w → P x) → (w <ℤ v → P y) → P (cond (int_le v w) x y)
by_int_le {X} v w x y P under over =
    elim (int_le v w) as (λ b. int_le v w ≡ b → P (cond b x y)) [ true ↦ λ e. under (le_from_test v w e) | false ↦ λ e. over (lt_from_test v w e) ] refl
