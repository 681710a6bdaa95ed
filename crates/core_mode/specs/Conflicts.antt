-- The conflict of the model that a text holds.
use Rattle.std.specs.Prelude.{◌≡◌, ℕ, List}
use Rattle.model_meaning.specs.declared.model.Model.{Model}
use Rattle.bee_compile.specs.Compiled.{IsInstance}
use Rattle.conflict_text.specs.declared.verdict.CoreVerdict.{CoreVerdict}
use Rattle.conflict_text.specs.declared.verdict.CoreVerdict.TheVariants as verdict
use Rattle.conflict_text.specs.declared.document.ConflictDocument.{ConflictDocument}
use Rattle.conflict_text.specs.ConflictDocuments.{AreNumbers, conflict_text}
use Rattle.core_extract.specs.Extracted.{IsExtracted}
use Rattle.core_extract.specs.Claims.{Claims}
use Rattle.search_options.specs.declared.options.SearchOptions.{SearchOptions}
use Rattle.text_modes.specs.declared.ends.Outcome.{Outcome}
use Rattle.text_modes.specs.declared.ends.Outcome.TheVariants.{Done, Unknown}
use Rattle.conflict_models.specs.ConflictModels.{HoldsWhole}

-- what a verdict says of the run: a search that was given up tells its budget
abbrev pub outcome_of : CoreVerdict → Outcome
outcome_of verdict.Satisfiable = Done
outcome_of (verdict.Core k) = Done
outcome_of (verdict.Unknown n) = Unknown n

-- the text of what is extracted from a model, by all rules, with what its verdict says of the run; and what it says is
-- true
pub record IsConflictText (options : SearchOptions) (model : Model) (outcome : Outcome) (written : List ℕ)
    : Type 0 where
  pub document : ConflictDocument
  pub is : IsExtracted IsInstance model options document
  pub claims : Claims model document document.verdict
  pub numbers : AreNumbers document.statements
  pub writes : written ≡ conflict_text model.decls document
  pub outcome_is : outcome ≡ outcome_of document.verdict

-- the text that was read holds a model, and the written text is that of what is extracted from it
pub record IsConflictHeld (options : SearchOptions) (text : List ℕ) (outcome : Outcome) (written : List ℕ)
    : Type 0 where
  pub model : Model
  pub held : HoldsWhole text model
  pub is : IsConflictText options model outcome written
