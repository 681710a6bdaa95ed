-- What another solver's text shows of a model that is compiled, and the first line that fails.
use Rattle.std.specs.Prelude.{◌≡◌, ◌≢◌, ◌⊎◌, ℕ, ◌+◌, Bool, true, false, List, [], ◌∷◌, length, ℤ}
use Rattle.std.specs.Prelude.{Option, None, Some}
use Rattle.bee_text.specs.Lines.{join_lines}
use Rattle.order_ints.specs.declared.cnf.Cnf.{Cnf}
use Rattle.order_ints.specs.declared.order_int.MapValue.{MapValue}
use Rattle.order_ints.specs.Numbers.{numbers_of}
use Rattle.order_ints.specs.Truth.{valuation_of}
use Rattle.model_meaning.specs.declared.model.Goal.{Goal}
use Rattle.model_meaning.specs.declared.model.Goal.TheVariants.{Satisfy}
use Rattle.model_meaning.specs.declared.model.Model.{Model}
use Rattle.sat_front.specs.Closed.{closed}
use Rattle.dimacs_read.specs.Values.{IsValues, ValuesFail}
use Rattle.proof_import.specs.Refutations.{IsRefutation, RefutationFails}
use Rattle.proof_check.specs.declared.line.ProofLine.{ProofLine}
use Rattle.proof_check.specs.declared.line.ProofLine.TheVariants.{Add, Delete}
use Rattle.answer_document.specs.declared.verdict.Verdict.{Verdict}
use Rattle.answer_document.specs.declared.verdict.Verdict.TheVariants.{Satisfiable, Unsatisfiable, Optimum}
use Rattle.answer_document.specs.declared.document.Document.{Document}
use Rattle.answer_document.specs.DocumentText.{document_text}
use Rattle.answer_document.specs.Valid.{numbers_given}
use Rattle.objective_bound.specs.Bounds.{with_atom, value_at, better_than}
use Rattle.ledger_check.specs.Checked.{IsAnswer}
use Rattle.answer_import.specs.declared.judging.Found.{Found}
use Rattle.answer_import.specs.declared.judging.Found.TheVariants as found
use Rattle.answer_import.specs.declared.importing.Imported.{Imported}
use Rattle.answer_import.specs.declared.importing.Imported.TheVariants as imported
use Rattle.answer_import.specs.Fronts.{IsCut}

-- the clauses of a compiled model, what its names stand for in them, and what is sought
pub record Sought : Type 0 where
  pub cnf : Cnf
  pub entries : List MapValue
  pub goal : Goal

-- the clauses, and that the objective is better than under truth values
abbrev pub better_cnf : Sought → List Bool → Cnf
better_cnf s values = with_atom s.cnf (better_than s.goal s.entries (value_at s.goal s.entries values))

-- What stands behind values shows a verdict: nothing, where any solution is sought; and else a refutation of the
-- clauses and that the objective is better.
abbrev pub ShowsBehind : Sought → List Bool → List ℕ → Goal → Verdict → Type 0
ShowsBehind s values rest Satisfy v = (closed rest ≡ []) × (v ≡ Satisfiable)
ShowsBehind s values rest goal v = IsRefutation (better_cnf s values) rest
    × (v ≡ Optimum (record { first = value_at s.goal s.entries values; second = None }))

-- Line k of what stands behind values is the first that fails.
abbrev pub FailsBehind : Sought → List Bool → List ℕ → Goal → ℕ → Type 0
FailsBehind s values rest Satisfy k = (closed rest ≢ []) × (k ≡ 1)
FailsBehind s values rest goal k = RefutationFails (better_cnf s values) rest k

-- values, which are those of the assignment that is given, and what stands behind them show a verdict
pub record ShowsValues (s : Sought) (front rest : List ℕ) (v : Verdict) (given : Option (List ℤ)) : Type 0 where
  pub values : List Bool
  pub are : IsValues s.cnf front values
  pub behind : ShowsBehind s values rest s.goal v
  pub given_is : given ≡ Some (numbers_of (valuation_of values) s.entries)

-- the values are those, and a line behind them is the first that fails
pub record FailsPast (s : Sought) (front rest : List ℕ) (lines line : ℕ) : Type 0 where
  pub values : List Bool
  pub are : IsValues s.cnf front values
  pub place : ℕ
  pub fails : FailsBehind s values rest s.goal place
  pub line_is : line ≡ lines + place

-- a refutation alone, or behind values
abbrev pub ShowsFrom : Bool → Sought → List ℕ → List (List ℕ) → List ℕ → Verdict → Option (List ℤ) → Type 0
ShowsFrom false s text lines rest v given = IsRefutation s.cnf text × (v ≡ Unsatisfiable) × (given ≡ None)
ShowsFrom true s text lines rest v given = ShowsValues s (join_lines lines) rest v given

abbrev pub FailsFrom : Bool → Sought → List ℕ → List (List ℕ) → List ℕ → ℕ → Type 0
FailsFrom false s text lines rest line = RefutationFails s.cnf text line
FailsFrom true s text lines rest line = ValuesFail s.cnf (join_lines lines) line
    ⊎ FailsPast s (join_lines lines) rest (length lines) line

-- The text shows a verdict, with the numbers of the values that it tells, or none.
pub record TextShows (s : Sought) (text : List ℕ) (v : Verdict) (given : Option (List ℤ)) : Type 0 where
  pub lines : List (List ℕ)
  pub told : Bool
  pub rest : List ℕ
  pub cut : IsCut text lines told rest
  pub shows : ShowsFrom told s text lines rest v given

-- The line of this number is the first of the text that fails: it doesn't tell values that satisfy the clauses, or
-- isn't shown by the clauses before it, or has no place; or all lines may stand so and show nothing, and it is the one
-- behind the last.
pub record TextFails (s : Sought) (text : List ℕ) (line : ℕ) : Type 0 where
  pub lines : List (List ℕ)
  pub told : Bool
  pub rest : List ℕ
  pub cut : IsCut text lines told rest
  pub fails : FailsFrom told s text lines rest line

-- what a text comes to
abbrev pub IsFound : Sought → List ℕ → Found → Type 0
IsFound s text (found.Shown v a proof) = TextShows s text v (numbers_given a)
IsFound s text (found.Refused line) = TextFails s text line

-- each line of a derivation adds a clause
abbrev pub AddsOnly : List ProofLine → Type 0
AddsOnly [] = Unit {0}
AddsOnly (Add id lits hints ∷ lines) = AddsOnly lines
AddsOnly (Delete at ids ∷ lines) = ⊥

-- The bytes are a valid answer to the model with a verdict that the text shows, and what they say is true; and they are
-- the text of a document with this verdict, with the numbers of the values that the text tells, whose derivation deletes
-- nothing.
pub record IsImported (model : Model) (s : Sought) (text : List ℕ) (v : Verdict) (written : List ℕ) : Type 0 where
  pub answer : IsAnswer model written v
  pub document : Document
  pub spelled : written ≡ document_text model.decls model.goal document
  pub verdict : document.verdict ≡ v
  pub adds : AddsOnly document.proof
  pub shows : TextShows s text v (numbers_given document.assignment)

-- what a text is imported as
abbrev pub IsImport : Model → Sought → List ℕ → Imported → Type 0
IsImport model s text (imported.Answer v written) = IsImported model s text v written.items
IsImport model s text (imported.Refused line) = TextFails s text line
