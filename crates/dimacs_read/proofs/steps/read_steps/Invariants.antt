use Rattle.std.proofs.Common.{length}
use Rattle.dimacs_read.proofs.StepsRead.{StepsSoFar}
use Rattle.dimacs_read.proofs.steps.read_steps.Given as goal

abbrev pub invariant-loop-word : goal.invariant-loop-word
invariant-loop-word l = StepsSoFar l.fn.words l.words l.steps.items l.total

abbrev pub decreases-loop-word : goal.decreases-loop-word
decreases-loop-word l = length l.words
