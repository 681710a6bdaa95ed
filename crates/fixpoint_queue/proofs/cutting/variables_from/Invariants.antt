use Rattle.fixpoint_queue.specs.Split.{AreFrom}
use Rattle.fixpoint_queue.proofs.cutting.variables_from.Given as goal

abbrev pub invariant-loop-k : goal.invariant-loop-k
invariant-loop-k l = AreFrom l.next l.k l.vars.items
