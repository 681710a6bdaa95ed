-- The node that has left its ring is free.
use Rattle.std.proofs.Common.{◌+◌, ◌*◌, subst, sym}
use Rattle.index_ring.specs.Lists.{RingLists, IsFree}
use Rattle.clause_rings.proofs.Nodes.{unlinked-free}
use Rattle.clause_rings.proofs.watches.rewatch.Goals as goal

pub push_back-requires-clause-free : goal.push_back-requires-clause-free
push_back-requires-clause-free c = subst (λ (r : RingLists). IsFree r (2 * c.args.c + c.args.place)) (sym c.unlink.ensures.lists) (unlinked-free c.args.rings.now (2 * c.args.c + c.args.place))
