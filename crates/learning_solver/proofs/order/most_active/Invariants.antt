use Rattle.std.proofs.Common.{◌≡◌, ℕ, ◌<◌, Some}
use Rattle.index_ring.specs.Lists.{Stands}
use Rattle.learning_solver.specs.Order.{IsFreeIn}
use Rattle.learning_solver.proofs.order.most_active.Given as goal

abbrev pub invariant-places : goal.invariant-places
invariant-places l = record {
  best : IsFreeIn l.db.trail l.best;
  stands : (v : ℕ) → l.at ≡ Some v → Stands l.ring 0 v;
  few : l.met < 8;
}
