use Rattle.std.proofs.Common.{◌≡◌, ◌<◌, ◌≤◌, ℕ, Some, false}
use Rattle.literal_trail.specs.Trail.{truth_in}
use Rattle.clause_arena.specs.Clauses.{lit_in}
use Rattle.clause_rings.proofs.looks.first_open.Given as goal

abbrev pub invariant-loop-k : goal.invariant-loop-k
invariant-loop-k l = (k : ℕ) → 2 ≤ k → k < l.k → truth_in l.trail.entries (lit_in l.lits k) ≡ Some false
