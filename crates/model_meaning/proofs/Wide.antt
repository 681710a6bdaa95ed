-- Products and sums of numbers of 64 bits fit 128 bits.
use Rattle.std.proofs.Common.{◌≡◌, ◌^◌, ◌≤◌, ℤ, ◌*ℤ◌, unsigned_abs, FitsSigned, w64, to_z, of_z, arith}
use Rattle.std.specs.Int.{w128}
use Rattle.std.proofs.lemmas.Int.{ints, to_z-of_z, unsigned_abs-mul, fits_signed_from_abs}
use Rattle.std.proofs.Math.Nat.{mul-le-mul}

pub abs_most : (a : ℤ) → FitsSigned w64 a → unsigned_abs a ≤ 2 ^ 63
abs_most a f = omega (arith, ints)

pub abs-product : (a b : ℤ) → FitsSigned w64 a → FitsSigned w64 b → unsigned_abs (a *ℤ b) ≤ 2 ^ 126
abs-product a b f g = rw (unsigned_abs-mul a b) (mul-le-mul (abs_most a f) (abs_most b g))

pub fits_wide : (a : ℤ) → FitsSigned w64 a → FitsSigned w128 a
fits_wide a f = omega (arith, ints)

-- a number of 64 bits, read as one of 128
pub wide : (a : ℤ) → FitsSigned w64 a → to_z w128 (of_z w128 a) ≡ a
wide a f = to_z-of_z w128 a (fits_wide a f)

pub wide-product : (a b : ℤ) → FitsSigned w64 a → FitsSigned w64 b → to_z w128 (of_z w128 (to_z w128 (of_z w128 a) *ℤ to_z w128 (of_z w128 b))) ≡ a *ℤ b
wide-product a b f g =
    rw (wide a f, wide b g) (to_z-of_z w128 (a *ℤ b) (fits_signed_from_abs w128 (a *ℤ b) (omega (arith, abs-product a b f g))))
