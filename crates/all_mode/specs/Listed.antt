-- The list of the solutions of the model that a text says.
use Rattle.std.specs.Prelude.{◌≡◌, ℕ, Bool, List, length}
use Rattle.std.specs.Prelude.{if◌then◌else◌}
use Rattle.model_meaning.specs.declared.model.Model.{Model}
use Rattle.bee_compile.specs.Compiled.{IsInstance}
use Rattle.model_texts.specs.HeldModels.{HoldsModel}
use Rattle.search_options.specs.declared.options.SearchOptions.{SearchOptions}
use Rattle.solution_blocks.specs.Blocks.{numbers_in}
use Rattle.list_text.specs.declared.verdict.ListVerdict.{ListVerdict}
use Rattle.list_text.specs.declared.verdict.ListVerdict.TheVariants.{All, Partial}
use Rattle.list_text.specs.declared.document.ListDoc.{ListDoc}
use Rattle.list_text.specs.ListText.{list_text}
use Rattle.list_text.specs.Valid.{IsValidList, ListHolds}
use Rattle.list_answer.specs.ListAnswer.{IsListOf}
use Rattle.text_modes.specs.declared.ends.Outcome.{Outcome}
use Rattle.text_modes.specs.declared.ends.Outcome.TheVariants.{Done, Refused, Unknown}

-- what a list says of the run: a search that was given up tells its budget
abbrev pub outcome_of : Bool → ℕ → Outcome
outcome_of complete budget = if complete then Done else Unknown budget

-- the text of the list of a model's solutions, by all rules, with what it says of the run
pub record IsListText (options : SearchOptions) (model : Model) (outcome : Outcome) (written : List ℕ) : Type 0 where
  pub document : ListDoc
  pub before : ℕ
  pub after : ℕ
  pub is : IsListOf IsInstance model options document before after
  pub writes : written ≡ list_text model.decls document
  pub outcome_is : outcome ≡ outcome_of document.complete options.budget

-- the same of the model that a text within the limit says without fault
pub record ListsHeld (options : SearchOptions) (text : List ℕ) (outcome : Outcome) (written : List ℕ) : Type 0 where
  pub model : Model
  pub held : HoldsModel text model
  pub is : IsListText options model outcome written

-- A run that is done says ALL, and one whose budget is spent PARTIAL, with the budget.
abbrev pub SaysVerdict : ℕ → Outcome → ℕ → ListVerdict → Type 0
SaysVerdict budget Done count v = v ≡ All count
SaysVerdict budget (Unknown b) count v = (b ≡ budget) × (v ≡ Partial count b)
SaysVerdict budget (Refused line) count v = ⊥

-- The text that was read says a model, and the written text is a valid list of its solutions, with the verdict that the
-- outcome tells, and what it says is true: the listed assignments are solutions, none stands twice, and on ALL there
-- are no others.
pub record IsListed (options : SearchOptions) (text : List ℕ) (outcome : Outcome) (written : List ℕ) : Type 0 where
  pub lists : ListsHeld options text outcome written
  pub verdict : ListVerdict
  pub says : SaysVerdict options.budget outcome (length lists.is.document.solutions) verdict
  pub valid : IsValidList lists.model written verdict (numbers_in lists.is.document.solutions)
  pub holds : ListHolds lists.model verdict (numbers_in lists.is.document.solutions)
