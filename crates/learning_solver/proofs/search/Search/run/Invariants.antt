use Rattle.std.proofs.Common.{◌≡◌}
use Rattle.learning_solver.specs.Searching.{IsRunning, GoesForward, left_to_do}
use Rattle.learning_solver.proofs.search.Search.run.Given as goal

abbrev pub invariant-loop-found : goal.invariant-loop-found
invariant-loop-found g l = record {
  running : IsRunning l.task l.restarts l.self;
  forward : GoesForward l.fn.self l.self;
  start : l.restarts.start ≡ l.fn.self.added;
  restart : l.restarts.restart ≡ l.restart;
}

abbrev pub decreases-loop-found : goal.decreases-loop-found
decreases-loop-found g l = left_to_do l.task l.self
