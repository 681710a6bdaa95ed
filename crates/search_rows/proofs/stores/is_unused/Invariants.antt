use Rattle.std.proofs.Common.{◌≢◌, ◌<◌, ℕ, Some}
use Rattle.literal_trail.specs.Trail.{entry_at}
use Rattle.search_rows.proofs.stores.is_unused.Given as goal

-- those before are not made true by the clause
abbrev pub invariant-loop-k : goal.invariant-loop-k
invariant-loop-k l = (j : ℕ) → j < l.k → (entry_at l.db.trail.entries j).reason ≢ Some l.c
