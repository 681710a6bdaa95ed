use Rattle.std.proofs.Common.{drop}
use Rattle.statement_lower.specs.Linear.{constant_of_members}
use Rattle.statement_lower.proofs.SummandSteps.{Adding}
use Rattle.statement_lower.proofs.summands.constant_of_members.Given as goal

abbrev pub invariant-loop-int : goal.invariant-loop-int
invariant-loop-int l = Adding l.sum l.int-index (drop l.int-index l.ints) (constant_of_members l.ints)
