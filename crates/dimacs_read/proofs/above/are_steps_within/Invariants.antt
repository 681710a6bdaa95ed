use Rattle.std.proofs.Common.{◌≡◌, drop}
use Rattle.std.specs.List.{list_all}
use Rattle.dimacs_read.specs.TextLines.{atom_within}
use Rattle.dimacs_read.proofs.above.are_steps_within.Given as goal

abbrev pub invariant-loop-step : goal.invariant-loop-step
invariant-loop-step l = list_all (λ s. atom_within l.vars s.0) (drop l.step-index l.steps) ≡ list_all (λ s. atom_within l.vars s.0) l.steps
