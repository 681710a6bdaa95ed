-- What holds of each text that is written, and of each that is read.
use Rattle.std.specs.Prelude.{ℕ, List}
use Rattle.text_modes.specs.declared.ends.Outcome.{Outcome}
use Rattle.text_modes.specs.declared.ends.Outcome.TheVariants.{Done}
use Rattle.text_modes.specs.declared.ends.End.TheVariants.{Wrote}
use Rattle.model_texts.specs.declared.fault.ModelFault.{ModelFault}
use Rattle.model_texts.specs.ModelTexts.{HasFault}
use Rattle.search_options.specs.declared.options.SearchOptions.{SearchOptions}
use Rattle.check_modes.specs.CheckAllMode.{HaveEnd}
use Rattle.all_mode.specs.Listed.{IsListed}
use Rattle.all_mode.specs.AllMode.{HasModel}

-- the text of a model and the list that is written for it have the end of a valid list in checkall mode
abbrev pub ListsAreAccepted : Type 0
ListsAreAccepted = (options : SearchOptions) (text : List ℕ) (outcome : Outcome) (written : List ℕ)
    → IsListed options text outcome written → HaveEnd (record { first = text; second = written }) (Wrote Done)

-- it cannot be that a text has neither a fault nor a model
abbrev pub AllAnswers : Type 0
AllAnswers = (text : List ℕ) → ((fault : ModelFault) → HasFault text fault → ⊥) → (HasModel text → ⊥) → ⊥
