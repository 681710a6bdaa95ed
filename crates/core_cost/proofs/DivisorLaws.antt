-- Euclid's remainders give the greatest common divisor.
use Rattle.std.proofs.Common.{◌≡◌, ℕ, ◌%◌, ◌<◌, ◌≤◌, zero, suc, refl, arith}
use Rattle.std.specs.Int.{IsGcd}
use Rattle.std.proofs.lemmas.Nat.{mod_below}
use Rattle.std.proofs.lemmas.Nat.Gcd.{IsGcd-from_zero, IsGcd-from_mod, same_from_IsGcd}
use Rattle.core_cost.specs.Divisor.{divisor_within, common_divisor_of}

IsGcd-within : (most a b : ℕ) → b ≤ most → IsGcd a b (divisor_within most a b)
IsGcd-within zero a b h = IsGcd-from_zero a b (omega arith)
IsGcd-within (suc most) a zero h = IsGcd-from_zero a zero refl
IsGcd-within (suc most) a (suc b) h =
    let below : a % suc b < suc b = mod_below a (suc b) (omega arith) in
    IsGcd-from_mod a (suc b) (divisor_within most (suc b) (a % suc b)) (IsGcd-within most (suc b) (a % suc b) (omega arith))

pub IsGcd-common : (a b : ℕ) → IsGcd a b (common_divisor_of a b)
unfolding common_divisor_of
IsGcd-common a b = IsGcd-within b a b (omega arith)

pub common_from_IsGcd : (a b g : ℕ) → IsGcd a b g → g ≡ common_divisor_of a b
common_from_IsGcd a b g h = same_from_IsGcd a b g (common_divisor_of a b) h (IsGcd-common a b)
