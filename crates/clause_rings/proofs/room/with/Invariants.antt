use Rattle.std.proofs.Common.{◌≡◌}
use Rattle.literal_trail.specs.Trail.{empty_trail}
use Rattle.clause_rings.specs.Keeping.{Keeps}
use Rattle.clause_rings.proofs.Widened.{HoldsFirst}
use Rattle.clause_rings.proofs.room.with.Given as goal

abbrev pub invariant-loop-k : goal.invariant-loop-k
invariant-loop-k l = Keeps l.watches × (l.watches.trail ≡ empty_trail l.cnf.vars) × HoldsFirst l.clauses l.k l.watches.arena.clauses
