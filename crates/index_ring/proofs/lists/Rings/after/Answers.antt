use Rattle.std.proofs.Common.{◌∙◌}
use Rattle.index_ring.proofs.Seen.{after-shown}
use Rattle.index_ring.proofs.lists.Rings.after.Goals as goal

pub returns-clause-node : goal.returns-clause-node
returns-clause-node c r stands =
    c.node_at.ensures ∙ after-shown c.self.inside.nodes.items c.self.inside.rings.items c.args.self.now c.self.invariant c.self.view_is c.as_slice.result.now r c.args.node c.as_slice.ensures.value c.requires stands
