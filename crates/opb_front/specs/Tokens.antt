-- The tokens of a text.
use Rattle.std.specs.Prelude.{ℕ, ◌+◌, ◌*◌, ◌-◌, ◌==◌, ◌&&◌, not, nat_le, ℤ, pos, neg_ℤ, Bool}
use Rattle.std.specs.Prelude.{true, false, List, [], ◌∷◌, ◌++◌, codes, map, length, drop, slice_index}
use Rattle.std.specs.Prelude.{if◌then◌else◌}
use Rattle.std.specs.Char.{is_ascii_digit}
use Rattle.std.specs.List.{list_all}
use Rattle.std.specs.Str.{bytes_eq}
use Rattle.opb_front.specs.declared.items.Comparison.TheVariants.{AtLeast, AtMost, Equal}
use Rattle.opb_front.specs.declared.tokens.Token.{Token}
use Rattle.opb_front.specs.declared.tokens.Token.TheVariants.{Min, Semicolon, Compare, Number, PastNumber, Of}
use Rattle.opb_front.specs.declared.tokens.Token.TheVariants.{PastIndex, Unknown}
use Rattle.opb_front.specs.Words.{line_words, text_lines}

-- the greatest absolute value of a number, and the greatest index
abbrev pub most_number : ℕ
most_number = 1073741824

abbrev pub most_index : ℕ
most_index = 1000000

-- whether bytes are digits, at least one
abbrev pub are_digits : List ℕ → Bool
are_digits bytes = not (length bytes == 0) && list_all is_ascii_digit bytes

-- the number that digits make behind those of another number
abbrev pub value_behind : ℕ → List ℕ → ℕ
value_behind v [] = v
value_behind v (b ∷ bs) = value_behind (10 * v + (b - 48)) bs

abbrev pub value_of : List ℕ → ℕ
value_of digits = value_behind 0 digits

-- a number with its sign
abbrev pub signed : Bool → ℕ → ℤ
signed positive v = if positive then pos v else neg_ℤ (pos v)

-- a number, by its sign and its digits
abbrev pub number_token : Bool → List ℕ → Token
number_token positive digits =
    if are_digits digits
    then (if nat_le (value_of digits) most_number then Number (signed positive (value_of digits)) else PastNumber)
    else Unknown

-- a literal, by its sign and the digits of its index, which begin with none that is zero
abbrev pub literal_token : Bool → List ℕ → Token
literal_token positive digits =
    if are_digits digits && not (slice_index digits 0 == 48)
    then (if nat_le (value_of digits) most_index then Of (record { index = value_of digits; positive = positive })
    else PastIndex)
    else Unknown

-- a number or a literal, by its first byte: `+`, `-`, `x`, `~`
abbrev pub term_token : List ℕ → Token
term_token word =
    if slice_index word 0 == 43 then number_token true (drop 1 word) else
    (if slice_index word 0 == 45 then number_token false (drop 1 word) else
    (if slice_index word 0 == 120 then literal_token true (drop 1 word) else
    (if slice_index word 0 == 126 && slice_index word 1 == 120 then literal_token false (drop 2 word) else
    number_token true word)))

-- the token that a word is
abbrev pub token_of : List ℕ → Token
token_of word =
    if bytes_eq word (codes ";") then Semicolon else
    (if bytes_eq word (codes ">=") then Compare AtLeast else
    (if bytes_eq word (codes "<=") then Compare AtMost else
    (if bytes_eq word (codes "=") then Compare Equal else
    (if bytes_eq word (codes "min:") then Min else term_token word))))

-- a line that begins with `*` says nothing
abbrev pub is_comment : List ℕ → Bool
is_comment line = slice_index line 0 == 42

abbrev pub line_tokens : List ℕ → List Token
line_tokens line = if is_comment line then [] else map token_of (line_words line)

abbrev pub lines_tokens : List (List ℕ) → List Token
lines_tokens [] = []
lines_tokens (line ∷ lines) = line_tokens line ++ lines_tokens lines

-- the tokens of a text
abbrev pub text_tokens : List ℕ → List Token
text_tokens text = lines_tokens (text_lines text)
