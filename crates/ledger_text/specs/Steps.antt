-- How the lines of a ledger are spelled, without what begins and ends them in a text that holds them.
--
--     eq ID RULE ATOM ATOM
--     split ID
--     enc ID
--
-- A rule is `order`, `form` or `table`.
use Rattle.std.specs.Prelude.{ℕ, ◌<◌, ◌^◌, List, [], ◌∷◌, codes}
use Rattle.std.specs.Fmt.{decimal}
use Rattle.bee_text.specs.Words.{join_words}
use Rattle.order_ints.specs.Place.{AtomBelow}
use Rattle.core_forms.specs.declared.equation.Rule.{Rule}
use Rattle.core_forms.specs.declared.equation.Rule.TheVariants.{Order, Form, Table}
use Rattle.core_forms.specs.declared.equation.Equation.{Equation}
use Rattle.ledger_text.specs.declared.line.Line.{Line}
use Rattle.ledger_text.specs.declared.line.Line.TheVariants.{Equate, Split, Encode}
use Rattle.ledger_text.specs.Words.{atom_word, IsReadableAtom}

abbrev pub rule_word : Rule → List ℕ
rule_word Order = codes "order"
rule_word Form = codes "form"
rule_word Table = codes "table"

-- the words of an equation
abbrev pub equation_words : Equation → List (List ℕ)
equation_words e = rule_word e.rule ∷ atom_word e.a ∷ atom_word e.b ∷ []

-- the words of a line
abbrev pub step_words : Line → List (List ℕ)
step_words (Equate id e) = codes "eq" ∷ decimal id ∷ equation_words e
step_words (Split id) = codes "split" ∷ decimal id ∷ []
step_words (Encode id) = codes "enc" ∷ decimal id ∷ []

-- the text of a line
abbrev pub step_text : Line → List ℕ
step_text line = join_words (step_words line)

-- the id has 64 bits, and the variables are from 1 to 2 ^ 27
abbrev pub IsReadableStep : Line → Type 0
IsReadableStep (Equate id e) = (id < 2 ^ 64) × IsReadableAtom e.a × IsReadableAtom e.b
IsReadableStep (Split id) = id < 2 ^ 64
IsReadableStep (Encode id) = id < 2 ^ 64

-- the id has 64 bits, and the variables are from 1 and below n
abbrev pub LineBelow : ℕ → Line → Type 0
LineBelow n (Equate id e) = (id < 2 ^ 64) × AtomBelow n e.a × AtomBelow n e.b
LineBelow n (Split id) = id < 2 ^ 64
LineBelow n (Encode id) = id < 2 ^ 64

abbrev pub LedgerBelow : ℕ → List Line → Type 0
LedgerBelow n [] = Unit {0}
LedgerBelow n (line ∷ lines) = LineBelow n line × LedgerBelow n lines
