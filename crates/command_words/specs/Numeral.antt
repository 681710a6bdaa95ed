-- The number that a word says.
use Rattle.std.specs.Prelude.{ℕ, ℤ, pos, neg_ℤ, ◌+◌, ◌*◌, ◌-◌, ◌==◌, Bool, ◌&&◌, not, nat_le, List, []}
use Rattle.std.specs.Prelude.{◌∷◌, length, get_or, drop, Option, Some, None, option_map, if◌then◌else◌}
use Rattle.std.specs.Str.{all_ascii_digits}

-- the number that digits write behind those of n
abbrev pub read_on : ℕ → List ℕ → ℕ
read_on n [] = n
read_on n (digit ∷ digits) = read_on (10 * n + (digit - 48)) digits

-- one digit or more, and nothing else
abbrev pub is_numeral : List ℕ → Bool
is_numeral text = not (length text == 0) && all_ascii_digits text

abbrev pub is_within : ℕ → ℕ → ℕ → Bool
is_within least greatest n = nat_le least n && nat_le n greatest

-- the number that a word says in digits, where it says one in the limits
abbrev pub number_within : ℕ → ℕ → List ℕ → Option ℕ
number_within least greatest text =
    if is_numeral text && is_within least greatest (read_on 0 text) then Some (read_on 0 text) else None

-- a word begins with a minus sign
abbrev pub has_minus : List ℕ → Bool
has_minus text = get_or text 0 0 == 45

-- the number that a word says in digits, or in a minus sign and digits, where it says one of 64 bits
abbrev pub signed_number : List ℕ → Option ℤ
signed_number text =
    if has_minus text
    then option_map (λ n. neg_ℤ (pos n)) (number_within 0 9223372036854775808 (drop 1 text))
    else option_map (λ n. pos n) (number_within 0 9223372036854775807 text)
