use Rattle.std.proofs.Common.{arith, ap, length, ◌∙◌}
use Rattle.index_ring.proofs.Written.{ring-count}
use Rattle.index_ring.proofs.Seen.{first-shown}
use Rattle.index_ring.proofs.lists.Rings.first.Goals as goal

pub bounds-as_slice-ring : goal.bounds-as_slice-ring
bounds-as_slice-ring c =
    omega (arith, c.requires, ring-count c.self.inside.nodes.items c.self.inside.rings.items c.args.self.now c.self.view_is, ap length c.as_slice.ensures.value)

pub returns-clause-node : goal.returns-clause-node
returns-clause-node c =
    c.node_at.ensures ∙ first-shown c.self.inside.nodes.items c.self.inside.rings.items c.args.self.now c.self.invariant c.self.view_is c.as_slice.result.now c.args.ring c.as_slice.ensures.value c.requires
