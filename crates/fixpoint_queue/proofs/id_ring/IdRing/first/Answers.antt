use Rattle.std.proofs.Common.{subst}
use Rattle.fixpoint_queue.specs.IdQueue.{IsIds}
use Rattle.fixpoint_queue.proofs.Ids.{ids-of}
use Rattle.fixpoint_queue.proofs.id_ring.IdRing.first.Goals as goal

pub returns-in-Some-clause-ids : goal.returns-in-Some-clause-ids
returns-in-Some-clause-ids c = subst IsIds c.self.view_is (ids-of c.self.inside.rings c.self.invariant)

pub returns-in-None-clause-ids : goal.returns-in-None-clause-ids
returns-in-None-clause-ids c = subst IsIds c.self.view_is (ids-of c.self.inside.rings c.self.invariant)
