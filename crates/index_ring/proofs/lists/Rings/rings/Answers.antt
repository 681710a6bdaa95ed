use Rattle.std.proofs.Common.{arith, ap, length}
use Rattle.index_ring.proofs.Written.{few-rings, ring-count}
use Rattle.index_ring.proofs.lists.Rings.rings.Goals as goal

pub overflow_cast-result : goal.overflow_cast-result
overflow_cast-result c =
    omega (arith, few-rings c.self.inside.nodes.items c.self.inside.rings.items c.self.invariant, ap length c.as_slice.ensures.value)

pub returns-clause-count : goal.returns-clause-count
returns-clause-count c =
    omega (arith, ring-count c.self.inside.nodes.items c.self.inside.rings.items c.args.self.now c.self.view_is, ap length c.as_slice.ensures.value)
