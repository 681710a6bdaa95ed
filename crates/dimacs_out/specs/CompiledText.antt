-- The compiled text of declared names, what they stand for, the steps of the compilation, and a CNF, as a function to
-- bytes.
--
--     c bee 1
--     c bool NAME ATOM               for each declared Boolean
--     c int NAME BASE ATOM:WEIGHT .. for each declared integer, in the order of the declarations
--     c led LINE                     for each line of the ledger
--     p cnf VARS CLAUSES
--     LITERAL .. 0                   for each clause
--
-- An atom is `T`, `F`, or a variable with its sign.
use Rattle.std.specs.Prelude.{ℕ, ◌≤◌, ◌<◌, ◌^◌, ◌+◌, List, [], ◌∷◌, ◌++◌, codes, length}
use Rattle.std.specs.Prelude.{map, FitsSigned}
use Rattle.std.specs.Int.{w128}
use Rattle.std.specs.Fmt.{decimal, signed_decimal}
use Rattle.bee_text.specs.Lines.{join_lines}
use Rattle.bee_text.specs.Words.{join_words}
use Rattle.order_ints.specs.declared.literal.Lit.{Lit}
use Rattle.order_ints.specs.declared.atom.Atom.{Atom}
use Rattle.order_ints.specs.declared.order_int.MapValue.{MapValue}
use Rattle.order_ints.specs.declared.order_int.MapValue.TheVariants.{Bool, Int}
use Rattle.order_ints.specs.Place.{AtomBelow, StepsBelow, InRange}
use Rattle.ledger_text.specs.declared.line.Line.{Line}
use Rattle.ledger_text.specs.Words.{literal_word, atom_word}
use Rattle.ledger_text.specs.Steps.{step_text, LedgerBelow}
use Rattle.bumblebee_reader.specs.Names.{AreDeclared}
use Rattle.name_map.specs.declared.entries.MapEntry.{MapEntry}
use Rattle.dimacs_out.specs.declared.text.CnfText.{CnfText}

-- the first line
abbrev pub heading : List ℕ
heading = codes "c bee 1"

-- a step of an integer: its atom, a colon, its weight
abbrev pub step_word : Atom × ℕ → List ℕ
step_word s = atom_word s.0 ++ 58 ∷ decimal s.1

-- the words of a declared name's line
abbrev pub value_words : List ℕ → MapValue → List (List ℕ)
value_words name (Bool a) = codes "c" ∷ codes "bool" ∷ name ∷ atom_word a ∷ []
value_words name (Int a) = codes "c" ∷ codes "int" ∷ name ∷ signed_decimal a.base ∷ map step_word a.steps

abbrev pub entry_line : MapEntry → List ℕ
entry_line e = join_words (value_words e.name e.value)

-- the line of a ledger line
abbrev pub ledger_line : Line → List ℕ
ledger_line step = codes "c led " ++ step_text step

-- the line that tells how many variables and clauses there are
abbrev pub numbers_line : ℕ → ℕ → List ℕ
numbers_line vars count = join_words (codes "p" ∷ codes "cnf" ∷ decimal vars ∷ decimal count ∷ [])

-- the words of a clause's line
abbrev pub clause_words : List Lit → List (List ℕ)
clause_words c = map literal_word c ++ codes "0" ∷ []

abbrev pub clause_line : List Lit → List ℕ
clause_line c = join_words (clause_words c)

-- the lines of what a text holds
abbrev pub text_lines : CnfText → List (List ℕ)
text_lines x =
    heading
    ∷ (map entry_line x.entries
    ++ (map ledger_line x.ledger ++ numbers_line x.cnf.vars (length x.cnf.clauses)
    ∷ map clause_line x.cnf.clauses))

-- its text
abbrev pub text_of : CnfText → List ℕ
text_of x = join_lines (text_lines x)

-- the weights of an integer's steps are at least 1
abbrev pub WeightsCount : List (Atom × ℕ) → Type 0
WeightsCount [] = Unit {0}
WeightsCount (s ∷ steps) = (1 ≤ s.1) × (s.1 < 2 ^ 128) × WeightsCount steps

-- what a name stands for speaks of variables below n, and its numbers fit 128 bits
abbrev pub ValueBelow : ℕ → MapValue → Type 0
ValueBelow n (Bool a) = AtomBelow n a
ValueBelow n (Int a) = FitsSigned w128 a.base × StepsBelow n a.steps × WeightsCount a.steps

abbrev pub EntriesBelow : ℕ → List MapEntry → Type 0
EntriesBelow n [] = Unit {0}
EntriesBelow n (e ∷ entries) = ValueBelow n e.value × EntriesBelow n entries

-- what has a compiled text: declared names, each once, that stand for atoms and integers over the variables from 1 to
-- the CNF's number of them, with weights of at least 1; ledger lines and a CNF over these variables
pub record IsWritable (x : CnfText) : Type 0 where
  pub names : AreDeclared (map (λ e. e.name) x.entries)
  pub values : EntriesBelow (x.cnf.vars + 1) x.entries
  pub ledger : LedgerBelow (x.cnf.vars + 1) x.ledger
  pub clauses : InRange x.cnf
  pub vars : x.cnf.vars < 2 ^ 32
  pub count : length x.cnf.clauses < 2 ^ 64
