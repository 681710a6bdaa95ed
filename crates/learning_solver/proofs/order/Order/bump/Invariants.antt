use Rattle.std.proofs.Common.{◌≡◌}
use Rattle.learning_solver.proofs.order.Order.bump.Given as goal

abbrev pub invariant-loop-v : goal.invariant-loop-v
invariant-loop-v l = l.self ≡ l.fn.self
