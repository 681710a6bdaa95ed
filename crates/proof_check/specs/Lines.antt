-- The text of a proof line.
--
--     ID LITERAL .. 0 HINT .. 0
--     ID d ID .. 0
--
-- A literal is its variable, behind a minus sign for the negation. 0 only ends a list.
use Rattle.std.specs.Prelude.{◌≡◌, ℕ, ◌+◌, ◌<◌, ◌≤◌, ◌^◌, ℤ, List, [], ◌∷◌, ◌++◌}
use Rattle.std.specs.Prelude.{map, codes, unsigned_abs, FitsSigned, if◌then◌else◌}
use Rattle.std.specs.Int.{w64}
use Rattle.std.specs.Fmt.{decimal, signed_decimal}
use Rattle.bee_text.specs.Words.{join_words}
use Rattle.order_ints.specs.declared.literal.Lit.{Lit}
use Rattle.order_ints.specs.Place.{LitBelow}
use Rattle.proof_check.specs.declared.line.ProofLine.{ProofLine}
use Rattle.proof_check.specs.declared.line.ProofLine.TheVariants.{Add, Delete}

-- the word of a literal
abbrev pub literal_word : Lit → List ℕ
literal_word l = if l.positive then decimal l.var else 45 ∷ decimal l.var

-- the words of a list, and 0 behind them, before other words
abbrev pub list_words : {X : Type 0} → (X → List ℕ) → List X → List (List ℕ) → List (List ℕ)
list_words word xs behind = map word xs ++ codes "0" ∷ behind

-- the words of a line
abbrev pub line_words : ProofLine → List (List ℕ)
line_words (Add id lits hints) = decimal id ∷ list_words literal_word lits (list_words signed_decimal hints [])
line_words (Delete at ids) = decimal at ∷ codes "d" ∷ list_words decimal ids []

-- the text of a line, without and with its line feed
abbrev pub line_bytes : ProofLine → List ℕ
line_bytes line = join_words (line_words line)

abbrev pub line_text : ProofLine → List ℕ
line_text line = line_bytes line ++ 10 ∷ []

-- each member of a list
abbrev pub Each : {X : Type 0} → (X → Type 0) → List X → Type 0
Each P [] = Unit {0}
Each P (x ∷ xs) = P x × Each P xs

-- a literal over a variable from 1 to 2 ^ 27
abbrev pub IsReadableLit : Lit → Type 0
IsReadableLit l = LitBelow (2 ^ 27 + 1) l

-- an id has 64 bits and isn't 0
abbrev pub IsReadableId : ℕ → Type 0
IsReadableId id = (1 ≤ id) × (id < 2 ^ 64)

-- a hint has 64 bits with its sign and isn't 0
abbrev pub IsReadableHint : ℤ → Type 0
IsReadableHint z = FitsSigned w64 z × (1 ≤ unsigned_abs z)

-- A line that can be read is made of such. The first number of a deletion names no clause: it is any of 64 bits.
abbrev pub IsReadable : ProofLine → Type 0
IsReadable (Add id lits hints) = IsReadableId id × Each IsReadableLit lits × Each IsReadableHint hints
IsReadable (Delete at ids) = (at < 2 ^ 64) × Each IsReadableId ids

-- the bytes are the text of the line, without and with its line feed
abbrev pub AreBytesOf : ProofLine → List ℕ → Type 0
AreBytesOf line bytes = IsReadable line × (bytes ≡ line_bytes line)

abbrev pub IsTextOf : ProofLine → List ℕ → Type 0
IsTextOf line text = IsReadable line × (text ≡ line_text line)
