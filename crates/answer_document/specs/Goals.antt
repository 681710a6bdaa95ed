-- What is asked of a goal.
use Rattle.std.specs.Prelude.{Bool, true, false, is_some}
use Rattle.model_meaning.specs.declared.model.Goal.{Goal}
use Rattle.model_meaning.specs.declared.model.Goal.TheVariants.{Satisfy, Minimize, Maximize}

-- whether something is sought, and whether a second objective is
abbrev pub has_objective : Goal → Bool
has_objective Satisfy = false
has_objective (Minimize place second) = true
has_objective (Maximize place second) = true

abbrev pub has_second : Goal → Bool
has_second Satisfy = false
has_second (Minimize place second) = is_some second
has_second (Maximize place second) = is_some second
