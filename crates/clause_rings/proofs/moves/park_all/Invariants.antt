use Rattle.std.proofs.Common.{length, ◌≡◌, ◌-◌}
use Rattle.clause_rings.specs.Keeping.{Keeps}
use Rattle.clause_rings.proofs.moves.park_all.Given as goal

abbrev pub invariant-entries : goal.invariant-entries
invariant-entries l = Keeps l.watches × (l.watches.arena ≡ l.initial.watches.arena) × (l.watches.trail ≡ l.initial.watches.trail)

abbrev pub decreases-entries : goal.decreases-entries
decreases-entries l = length l.watches.trail.entries - l.watches.head
