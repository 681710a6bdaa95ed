-- Which lines of a text tell values that are wished for, and which line fails.
use Rattle.std.specs.Prelude.{◌≡◌, ◌⊎◌, ℕ, ℤ, ◌+◌, Bool, true, false, ◌&&◌, List, [], ◌∷◌, ◌++◌, codes, length}
use Rattle.std.specs.Str.{bytes_eq}
use Rattle.bee_text.specs.Lines.{lines_of}
use Rattle.bee_text.specs.Words.{is_word, split_blanks}
use Rattle.model_meaning.specs.declared.model.Decl.{Decl}
use Rattle.certificate_lines.specs.CertificateLines.{IsValueLine}
use Rattle.wish_text.specs.declared.wish.WishRead.{WishRead}
use Rattle.wish_text.specs.declared.wish.WishRead.TheVariants as read

-- these are a name, the sign `=` and a word
abbrev pub are_parts : List (List ℕ) → Bool
are_parts (name ∷ sign ∷ word ∷ []) = is_word name && (bytes_eq sign (codes "=") && is_word word)
are_parts parts = false

-- a line is a value line where they stand in it, with single blanks between them
abbrev pub is_value_line : List ℕ → Bool
is_value_line line = are_parts (split_blanks line)

-- a line tells a value of one of these names, which is in the name's domain
abbrev pub TellsValue : List Decl → List ℕ → Type 0
TellsValue [] line = ⊥
TellsValue (d ∷ ds) line = ((z : ℤ) × IsValueLine d line z) ⊎ TellsValue ds line

-- a value line fails that tells no such value: its name isn't declared, or its value is not in the domain
pub record Fails (decls : List Decl) (line : List ℕ) : Type 0 where
  pub value_line : is_value_line line ≡ true
  pub untold : TellsValue decls line → ⊥

-- none of these lines fails
abbrev pub NoneFails : List Decl → List (List ℕ) → Type 0
NoneFails decls [] = Unit {0}
NoneFails decls (line ∷ lines) = (Fails decls line → ⊥) × NoneFails decls lines

-- the line of this number is the first of a text that fails
pub record FirstFails (decls : List Decl) (text : List ℕ) (number : ℕ) : Type 0 where
  pub before : List (List ℕ)
  pub line : List ℕ
  pub left : List (List ℕ)
  pub parts : lines_of text ≡ before ++ line ∷ left
  pub number_is : number ≡ length before + 1
  pub none_before : NoneFails decls before
  pub fails : Fails decls line

-- what reading a text comes to
abbrev pub IsRead : List Decl → List ℕ → WishRead → Type 0
IsRead decls text (read.Values values) = NoneFails decls (lines_of text)
IsRead decls text (read.Refused line) = FirstFails decls text line
