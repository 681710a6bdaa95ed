-- The greatest common divisor, by Euclid's remainders.
use Rattle.std.specs.Prelude.{ℕ, ◌%◌}
use Rattle.std.proofs.Common.{zero, suc}

-- by at most so many remainders
abbrev pub divisor_within : ℕ → ℕ → ℕ → ℕ
divisor_within zero a b = a
divisor_within (suc most) a zero = a
divisor_within (suc most) a (suc b) = divisor_within most (suc b) (a % suc b)

-- the greatest common divisor of two numbers, and the other number where one is 0; each remainder is below the last, so
-- that b of them are enough
unfoldable pub common_divisor_of : ℕ → ℕ → ℕ
common_divisor_of a b = divisor_within b a b
