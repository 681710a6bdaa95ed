-- The tokens of a text, with their lines.
use Rattle.std.specs.Prelude.{ℕ, zero, suc, ◌+◌, Bool, ◌||◌, Option, Some, None, List, [], ◌∷◌, nat_eq}
use Rattle.std.specs.Prelude.{if◌then◌else◌}
use Rattle.std.specs.List.{prefix_len, take_while}
use Rattle.bumblebee_reader.specs.Bytes.{is_letter, is_digit, is_word, is_in_comment}
use Rattle.bumblebee_reader.specs.declared.lexeme.Sign.{Sign}
use Rattle.bumblebee_reader.specs.declared.lexeme.Sign.TheVariants.{OpenCall, CloseCall, OpenList, CloseList, Comma}
use Rattle.bumblebee_reader.specs.declared.lexeme.Sign.TheVariants.{Dash}
use Rattle.bumblebee_reader.specs.declared.lexeme.Lexeme.{Lexeme}
use Rattle.bumblebee_reader.specs.declared.lexeme.Lexeme.TheVariants as lent

-- a name, digits in a row, one of the six signs, or any other byte
pub data Token : Type 0 where
  Word : (name : List ℕ) → Token
  Digits : (digits : List ℕ) → Token
  Mark : (sign : Sign) → Token
  Stray : Token

pub record TokenAt : Type 0 where
  pub token : Token
  pub line : ℕ

-- the token that is one byte
abbrev pub lone_token : ℕ → Token
lone_token b =
    if nat_eq b 40 then Mark OpenCall
    else (if nat_eq b 41 then Mark CloseCall
    else (if nat_eq b 91 then Mark OpenList
    else (if nat_eq b 93 then Mark CloseList
    else (if nat_eq b 44 then Mark Comma else (if nat_eq b 45 then Mark Dash else Stray)))))

-- a blank, a tab, a carriage return, a line feed, or the `%` that begins a comment
abbrev pub begins_gap : ℕ → Bool
begins_gap b = nat_eq b 32 || nat_eq b 9 || nat_eq b 13 || nat_eq b 10 || nat_eq b 37

-- the token that begins with the byte b before the bytes bs: the longest name, the most digits in a row,
-- or the byte alone; none where a gap begins there
abbrev pub token_from : ℕ → List ℕ → Option Token
token_from b bs =
    if is_letter b then Some (Word (b ∷ take_while is_word bs))
    else (if is_digit b then Some (Digits (b ∷ take_while is_digit bs))
    else (if begins_gap b then None else Some (lone_token b)))

-- how many of the bytes bs belong to the token or the comment that begins with the byte b before them
abbrev pub length_from : ℕ → List ℕ → ℕ
length_from b bs =
    if is_letter b then prefix_len is_word bs
    else (if is_digit b then prefix_len is_digit bs else (if nat_eq b 37 then prefix_len is_in_comment bs else 0))

-- a token at its line before others, or only the others
abbrev pub with_token : Option Token → ℕ → List TokenAt → List TokenAt
with_token None line ts = ts
with_token (Some t) line ts = record { token = t; line = line } ∷ ts

-- the line of what stands behind a byte
abbrev pub next_line : ℕ → ℕ → ℕ
next_line line b = if nat_eq b 10 then line + 1 else line

-- The tokens of the bytes, the first of which stand on this line. So many of the bytes are passed over first:
-- they belong to a token or a comment that has begun before them.
abbrev pub tokens_behind : ℕ → ℕ → List ℕ → List TokenAt
tokens_behind n line [] = []
tokens_behind zero line (b ∷ bs) =
    with_token (token_from b bs) line (tokens_behind (length_from b bs) (next_line line b) bs)
tokens_behind (suc n) line (b ∷ bs) = tokens_behind n line bs

abbrev pub tokens_at : ℕ → List ℕ → List TokenAt
tokens_at line bytes = tokens_behind 0 line bytes

-- the tokens of a text
abbrev pub tokens : List ℕ → List TokenAt
tokens text = tokens_at 1 text

-- the line of the end of the bytes, the first of which stand on this line
abbrev pub last_line_at : ℕ → List ℕ → ℕ
last_line_at line [] = line
last_line_at line (b ∷ bs) = last_line_at (next_line line b) bs

-- the line of a text's end
abbrev pub last_line : List ℕ → ℕ
last_line text = last_line_at 1 text

-- the token that a lexeme is
abbrev pub token_of : Lexeme → Token
token_of (lent.Word bytes) = Word bytes.now
token_of (lent.Digits bytes) = Digits bytes.now
token_of (lent.Sign sign) = Mark sign
token_of lent.Stray = Stray
