-- Luby's sequence: 1, 1, 2, 1, 1, 2, 4, and so on.
use Rattle.std.specs.Prelude.{◌≡◌, ◌==◌, ℕ, zero, suc, ◌+◌, ◌-◌, ◌*◌, ◌^◌, length}
use Rattle.std.specs.Prelude.{if◌then◌else◌}
use Rattle.std.specs.Int.Digits.{digits_of}

-- how many binary digits a number has
abbrev pub binary_digits : ℕ → ℕ
binary_digits n = length (digits_of 2 n)

-- term k, where k is at most `most`: with i the number of k's binary digits it is 2^(i-1) where k is 2^i - 1,
-- and else the term of the number that is less by 2^(i-1) - 1
abbrev pub luby_within : ℕ → ℕ → ℕ
luby_within zero k = 0
luby_within (suc most) k =
    if k + 1 == 2 ^ binary_digits k
    then 2 ^ (binary_digits k - 1)
    else luby_within most (k - (2 ^ (binary_digits k - 1) - 1))

-- term k, from 1 on
abbrev pub luby : ℕ → ℕ
luby k = luby_within k k

-- the first n terms together
abbrev pub luby_sum : ℕ → ℕ
luby_sum zero = 0
luby_sum (suc n) = luby_sum n + luby (suc n)

-- the first 2^(j+1) - 1 terms add up to (j+1) * 2^j
abbrev pub LubySums : Type 0
LubySums = (j : ℕ) → luby_sum (2 ^ suc j - 1) ≡ suc j * 2 ^ j

-- how many clauses stretch k learns
abbrev pub stretch_length : ℕ → ℕ
stretch_length k = 64 * luby k
