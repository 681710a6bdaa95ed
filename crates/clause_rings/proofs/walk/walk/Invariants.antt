use Rattle.std.proofs.Common.{length}
use Rattle.index_ring.specs.Lists.{list_of}
use Rattle.index_ring.specs.Lists.{rest_from}
use Rattle.clause_rings.proofs.Walked.{IsWalked}
use Rattle.clause_rings.proofs.walk.walk.Given as goal

abbrev pub invariant-loop-at : goal.invariant-loop-at
invariant-loop-at l = IsWalked l.initial.watches l.watches l.ring l.at l.blocker

abbrev pub decreases-loop-at : goal.decreases-loop-at
decreases-loop-at l = length (rest_from l.at (list_of l.watches.rings l.ring))
