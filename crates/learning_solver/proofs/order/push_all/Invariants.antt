use Rattle.learning_solver.proofs.RingLaws.{IsFilled}
use Rattle.learning_solver.proofs.order.push_all.Given as goal

abbrev pub invariant-loop-v : goal.invariant-loop-v
invariant-loop-v l = IsFilled l.vars l.v l.ring
