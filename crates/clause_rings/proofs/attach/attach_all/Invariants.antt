use Rattle.std.proofs.Common.{length}
use Rattle.index_ring.specs.Lists.{list_of}
use Rattle.clause_rings.proofs.Propagated.{IsOnTheWay}
use Rattle.clause_rings.proofs.attach.attach_all.Given as goal

abbrev pub invariant-loop-node : goal.invariant-loop-node
invariant-loop-node l = IsOnTheWay l.initial.watches l.watches

abbrev pub decreases-loop-node : goal.decreases-loop-node
decreases-loop-node l = length (list_of l.watches.rings 0)
