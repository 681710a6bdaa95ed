use Rattle.std.proofs.Common.{◌≢◌, ℕ, ◌<◌, Some}
use Rattle.literal_trail.specs.Trail.{reason_in}
use Rattle.clause_arena.specs.Clauses.{lits_of, lit_in}
use Rattle.clause_rings.proofs.moves.is_unused.Given as goal

-- none of the literals before the one at hand became true for the clause
abbrev pub invariant-loop-place : goal.invariant-loop-place
invariant-loop-place l = (k : ℕ) → k < l.place → reason_in l.watches.trail.entries (lit_in (lits_of l.watches.arena.clauses l.c) k).var ≢ Some l.c
