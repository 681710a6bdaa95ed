use Rattle.std.proofs.Common.{◌≡◌, ℕ, ◌≤◌, length, Some, None}
use Rattle.index_ring.specs.Lists.{Stands, list_of, first_in, times}
use Rattle.literal_trail.specs.Trail.{entry_of}
use Rattle.index_ring.specs.Lists.{rest_from}
use Rattle.learning_solver.proofs.order.first_free.Given as goal

abbrev pub invariant-loop-at : goal.invariant-loop-at
invariant-loop-at l = record {
  stands : (v : ℕ) → l.at ≡ Some v → Stands l.ring 0 v;
  passed : l.fn.from ≡ first_in (list_of l.ring 0) → (v : ℕ) → 1 ≤ times v (list_of l.ring 0) → entry_of l.db.trail.entries v ≡ None → 1 ≤ times v (rest_from l.at (list_of l.ring 0));
}

abbrev pub decreases-loop-at : goal.decreases-loop-at
decreases-loop-at l = length (rest_from l.at (list_of l.ring 0))
