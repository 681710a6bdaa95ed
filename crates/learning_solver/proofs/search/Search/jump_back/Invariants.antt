use Rattle.std.proofs.Common.{◌≡◌}
use Rattle.learning_solver.proofs.search.Search.jump_back.Given as goal

abbrev pub invariant-loop-place : goal.invariant-loop-place
invariant-loop-place l = l.self ≡ l.initial.self
