-- The exit code of each status.
use Rattle.std.specs.Prelude.{ℕ}
use Rattle.bee_cli.specs.declared.status.Status.{Status}
use Rattle.bee_cli.specs.declared.status.Status.TheVariants.{Done, Refused, Usage, Model, NoObjective, TwoObjectives}
use Rattle.bee_cli.specs.declared.status.Status.TheVariants.{Read, Write, Memory, Unknown}

abbrev pub code_of : Status → ℕ
code_of Done = 0
code_of (Refused line) = 1
code_of Usage = 2
code_of (Model fault) = 3
code_of NoObjective = 3
code_of TwoObjectives = 3
code_of Read = 4
code_of Write = 5
code_of Memory = 6
code_of (Unknown count) = 8
