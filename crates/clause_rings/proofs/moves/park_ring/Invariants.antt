use Rattle.std.proofs.Common.{length, ◌≡◌, ◌<◌}
use Rattle.index_ring.specs.Lists.{list_of}
use Rattle.clause_rings.specs.Keeping.{Keeps, head_ring}
use Rattle.clause_rings.proofs.moves.park_ring.Given as goal

abbrev pub invariant-loop-node : goal.invariant-loop-node
invariant-loop-node l = Keeps l.watches × (l.watches.arena ≡ l.initial.watches.arena) × (l.watches.trail ≡ l.initial.watches.trail) × (l.watches.head ≡ l.initial.watches.head) × (head_ring l.watches ≡ l.ring) × (l.watches.head < length l.watches.trail.entries)

abbrev pub decreases-loop-node : goal.decreases-loop-node
decreases-loop-node l = length (list_of l.watches.rings l.ring)
