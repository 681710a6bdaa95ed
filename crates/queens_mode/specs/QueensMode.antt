-- What a run in the mode of queens promises.
use Rattle.std.specs.Prelude.{◌≡◌, ℕ, ◌≤◌, List}
use Rattle.text_modes.specs.Seen.{Seen}
use Rattle.text_modes.specs.Promises.{Finishes}
use Rattle.text_modes.specs.NoText.{NothingRead, NoTextRun}
use Rattle.text_modes.specs.declared.ends.Outcome.{Outcome}
use Rattle.text_modes.specs.declared.ends.End.{End}
use Rattle.step_kernel.specs.CnfOf.{cnf_of}
use Rattle.answer_document.specs.declared.document.Document.{Document}
use Rattle.answer_document.specs.declared.verdict.Verdict.TheVariants.{Satisfiable}
use Rattle.answer_document.specs.Claims.{Claims}
use Rattle.answer_document.specs.Valid.{numbers_given}
use Rattle.search_options.specs.declared.options.SearchOptions.{SearchOptions}
use Rattle.decode_minimize.specs.Answers.{IsBudget, IsAnswer}
use Rattle.decode_minimize.specs.Answering.{size_of}
use Rattle.bee_compile.specs.Compiled.{IsInstance}
use Rattle.solve_mode.specs.Solved.{outcome_of}
use Rattle.queens_model.specs.Queens.{queens}
use Rattle.queens_model.specs.Placements.{IsPlacement}
use Rattle.queens_mode.specs.Summary.{values_of, summary_text}

-- The text that is written for a board of this size tells an answer to the model of its queens, which is valid and
-- true, whatever the verdict is; its numbers of variables and clauses are those of the CNF of the state to which the
-- ledger leads. After SATISFIABLE the columns are those of the solution, which are a placement, and the ledger is
-- written; after another verdict the document is.
pub record IsPlaced (options : SearchOptions) (size : ℕ) (outcome : Outcome) (written : List ℕ) : Type 0 where
  pub document : Document
  pub before : ℕ
  pub after : ℕ
  pub is : IsAnswer IsInstance (queens size) options document before after
  pub true_claims : Claims (queens size) document.verdict (numbers_given document.assignment)
  pub placement : document.verdict ≡ Satisfiable → IsPlacement size (values_of document.assignment)
  pub writes : written ≡ summary_text size (queens size).decls (size_of (cnf_of is.last)) document
  pub outcome_is : outcome ≡ outcome_of document.verdict

-- A run in the mode of queens, with how the answer is sought and the size of the board. No text is read, and nothing
-- but want of memory and faults of writing keeps it from ending in a text.
pub record QueensMode {F : Type 0} (options : SearchOptions) (size : ℕ) (end : End F) (seen : Seen) : Type 0 where
  pub run : NoTextRun (IsPlaced options size) end seen
  pub finishes : Finishes NothingRead NothingRead ⊥ end seen

-- a board, and how its queens are sought
pub record Task : Type 0 where
  pub options : SearchOptions
  pub size : ℕ

-- its numbers are in their limits
pub record IsTask (task : Task) : Type 0 where
  pub budget : IsBudget task.options.budget
  pub least : 4 ≤ task.size
  pub most : task.size ≤ 24
