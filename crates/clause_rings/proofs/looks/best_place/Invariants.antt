use Rattle.std.proofs.Common.{◌≡◌, ◌<◌, ◌≤◌, ℕ}
use Rattle.clause_arena.specs.Clauses.{lit_in}
use Rattle.clause_rings.specs.Looks.{rank_of}
use Rattle.clause_rings.proofs.looks.best_place.Given as goal

abbrev pub invariant-loop-k : goal.invariant-loop-k
invariant-loop-k l = (l.from ≤ l.best) × (l.best < l.k) × (l.highest ≡ rank_of l.trail.entries (lit_in l.lits l.best)) × ((j : ℕ) → l.from ≤ j → j < l.k → rank_of l.trail.entries (lit_in l.lits j) ≤ l.highest)
