use Rattle.index_ring.specs.Lists.{times_in_all}
use Rattle.core_occurrences.specs.Held.{ids_in}
use Rattle.core_occurrences.proofs.Listed.{IsUnlinking}
use Rattle.core_occurrences.proofs.linking.unlink_all.Given as goal

abbrev pub invariant-loop-count : goal.invariant-loop-count
invariant-loop-count l = IsUnlinking l.initial.nodes l.initial.rings l.nodes l.rings l.heads l.id l.count

abbrev pub decreases-loop-count : goal.decreases-loop-count
decreases-loop-count l = times_in_all l.id (ids_in l.nodes l.rings)
