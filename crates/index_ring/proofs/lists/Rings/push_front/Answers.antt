use Rattle.std.proofs.Common.{arith, ap, length}
use Rattle.index_ring.proofs.Written.{ring-count}
use Rattle.index_ring.proofs.lists.Rings.push_front.Goals as goal

pub push_front-requires-clause-ring : goal.push_front-requires-clause-ring
push_front-requires-clause-ring c =
    omega (arith, ring-count c.self.inside.nodes.items c.self.inside.rings.items c.args.self.now c.self.view_is, ap length c.as_mut_slice.ensures.value)
