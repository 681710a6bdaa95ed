use Rattle.std.proofs.Common.{arith, ap, length}
use Rattle.index_ring.proofs.Written.{ring-count}
use Rattle.index_ring.proofs.lists.Rings.splice.Goals as goal

pub splice-requires-clause-from : goal.splice-requires-clause-from
splice-requires-clause-from c =
    omega (arith, ring-count c.self.inside.nodes.items c.self.inside.rings.items c.args.self.now c.self.view_is, ap length c.as_mut_slice.ensures.value)

pub splice-requires-clause-into : goal.splice-requires-clause-into
splice-requires-clause-into c =
    omega (arith, ring-count c.self.inside.nodes.items c.self.inside.rings.items c.args.self.now c.self.view_is, ap length c.as_mut_slice.ensures.value)
