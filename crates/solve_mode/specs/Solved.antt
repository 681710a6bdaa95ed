-- The answer to the model that a text holds. Which text holds which model is a parameter: that of a model says it, and
-- that of a pseudo-Boolean file stands for one.
use Rattle.std.specs.Prelude.{◌≡◌, ℕ, ◌≤◌, List, length, Option}
use Rattle.model_meaning.specs.declared.model.Model.{Model}
use Rattle.bee_compile.specs.Compiled.{IsInstance}
use Rattle.model_texts.specs.HeldModels.{HoldsModel}
use Rattle.answer_document.specs.declared.verdict.Verdict.{Verdict}
use Rattle.answer_document.specs.declared.verdict.Verdict.TheVariants as verdict
use Rattle.answer_document.specs.declared.document.Document.{Document}
use Rattle.answer_document.specs.DocumentText.{document_text}
use Rattle.answer_document.specs.Valid.{numbers_given}
use Rattle.answer_document.specs.Claims.{Claims}
use Rattle.search_options.specs.declared.options.SearchOptions.{SearchOptions}
use Rattle.decode_minimize.specs.Answers.{IsAnswer}
use Rattle.text_modes.specs.declared.ends.Outcome.{Outcome}
use Rattle.text_modes.specs.declared.ends.Outcome.TheVariants.{Done, Unknown}

-- what a verdict says of the run: a search that was given up tells its budget
abbrev pub outcome_of : Verdict → Outcome
outcome_of verdict.Satisfiable = Done
outcome_of verdict.Unsatisfiable = Done
outcome_of (verdict.Optimum b) = Done
outcome_of (verdict.Unknown n best) = Unknown n

-- the text of an answer to a model, by all rules, with what its verdict says of the run
pub record IsAnswerText (options : SearchOptions) (model : Model) (outcome : Outcome) (written : List ℕ) : Type 0 where
  pub document : Document
  pub before : ℕ
  pub after : ℕ
  pub is : IsAnswer IsInstance model options document before after
  pub writes : written ≡ document_text model.decls model.goal document
  pub outcome_is : outcome ≡ outcome_of document.verdict

-- the text of an answer to the model that a text holds
pub record AnswersHeld (Holds : List ℕ → Model
    → Type 0) (options : SearchOptions) (text : List ℕ) (outcome : Outcome) (written : List ℕ) : Type 0 where
  pub model : Model
  pub held : Holds text model
  pub is : IsAnswerText options model outcome written

-- The text that was read holds a model, and the written text is that of an answer to the model: it is valid
-- (`is.is.valid`), and what it says is true.
pub record IsSolvedHeld (Holds : List ℕ → Model
    → Type 0) (options : SearchOptions) (text : List ℕ) (outcome : Outcome) (written : List ℕ) : Type 0 where
  pub answer : AnswersHeld Holds options text outcome written
  pub true_claims : Claims answer.model answer.is.document.verdict (numbers_given answer.is.document.assignment)

-- The same of a text within the limit that says a model without fault.

abbrev pub Answers : SearchOptions → List ℕ → Outcome → List ℕ → Type 0
Answers = AnswersHeld HoldsModel

abbrev pub IsSolved : SearchOptions → List ℕ → Outcome → List ℕ → Type 0
IsSolved = IsSolvedHeld HoldsModel
