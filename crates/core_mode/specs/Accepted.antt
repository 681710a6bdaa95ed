-- What is written is accepted.
use Rattle.std.specs.Prelude.{ℕ, List}
use Rattle.text_modes.specs.declared.ends.Outcome.{Outcome}
use Rattle.text_modes.specs.declared.ends.Outcome.TheVariants.{Done}
use Rattle.text_modes.specs.declared.ends.End.TheVariants.{Wrote}
use Rattle.search_options.specs.declared.options.SearchOptions.{SearchOptions}
use Rattle.check_modes.specs.CheckCoreMode.{HaveEnd}
use Rattle.core_mode.specs.Conflicts.{IsConflictHeld}

-- the text of a model and what is written for it have the end of the text of a conflict in checkcore mode
abbrev pub ConflictsAreAccepted : Type 0
ConflictsAreAccepted = (options : SearchOptions) (text : List ℕ) (outcome : Outcome) (written : List ℕ)
    → IsConflictHeld options text outcome written → HaveEnd (record { first = text; second = written }) (Wrote Done)
