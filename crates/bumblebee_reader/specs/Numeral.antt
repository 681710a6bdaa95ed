-- Numerals.
use Rattle.std.specs.Prelude.{ℕ, ◌+◌, ◌-◌, ◌*◌, Bool, false, List, [], ◌∷◌, nat_lt}
use Rattle.bumblebee_reader.specs.Tokens.{Token, Word, Digits, Mark, Stray}

-- the number that decimal digits write when they stand behind those of a number
abbrev pub number_behind : ℕ → List ℕ → ℕ
number_behind n [] = n
number_behind n (d ∷ ds) = number_behind (10 * n + (d - 48)) ds

-- the number that decimal digits write
abbrev pub number_of : List ℕ → ℕ
number_of digits = number_behind 0 digits

-- a numeral whose absolute value is above 2 ^ 30
abbrev pub is_too_great : Token → Bool
is_too_great (Word name) = false
is_too_great (Digits digits) = nat_lt 1073741824 (number_of digits)
is_too_great (Mark sign) = false
is_too_great Stray = false
