use Rattle.index_ring.proofs.Seen.{free-shown}
use Rattle.index_ring.proofs.lists.Rings.is_free.Goals as goal

pub returns-clause-free : goal.returns-clause-free
returns-clause-free c =
    free-shown c.self.inside.nodes.items c.self.inside.rings.items c.args.self.now c.self.invariant c.self.view_is c.as_slice.result.now c.args.node c.as_slice.ensures.value c.requires
