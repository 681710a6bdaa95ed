-- The classes of bytes of a model text.
use Rattle.std.specs.Prelude.{ℕ, Bool, ◌||◌, ◌&&◌, not, nat_le, nat_eq}

-- a letter or `_`
abbrev pub is_letter : ℕ → Bool
is_letter b = ((nat_le 65 b && nat_le b 90) || (nat_le 97 b && nat_le b 122)) || nat_eq b 95

abbrev pub is_digit : ℕ → Bool
is_digit b = nat_le 48 b && nat_le b 57

-- a byte that may stand in a name
abbrev pub is_word : ℕ → Bool
is_word b = is_letter b || is_digit b

-- a byte that goes on with a comment: any but a line feed
abbrev pub is_in_comment : ℕ → Bool
is_in_comment b = not (nat_eq b 10)
