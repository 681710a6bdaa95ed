use Rattle.std.proofs.Common.{◌≡◌, ◌+◌, ◌≤◌, ◌<◌, ℕ, Bool, Some, length}
use Rattle.order_ints.specs.Truth.{valuation_of}
use Rattle.literal_trail.specs.Trail.{value_in}
use Rattle.learning_solver.proofs.search.Search.values.Given as goal

abbrev pub invariant-loop-v : goal.invariant-loop-v
invariant-loop-v l = record {
  count : length l.values.items + 1 ≡ l.v;
  each : (v : ℕ) (b : Bool) → 1 ≤ v → v < l.v → value_in l.self.db.trail.entries v ≡ Some b → valuation_of l.values.items v ≡ b;
}
