use Rattle.std.proofs.Common.{arith, ap, length}
use Rattle.index_ring.specs.Lists.{grown}
use Rattle.index_ring.proofs.Written.{StandFor, few-rings, ring-count, written-grown}
use Rattle.index_ring.proofs.lists.Rings.grow.Goals as goal
use Rattle.index_ring.proofs.lists.Rings.grow.Goals.{After-push_alone-2}

pub push_alone-requires-2-clause-fits : goal.push_alone-requires-2-clause-fits
push_alone-requires-2-clause-fits c =
    omega (arith, few-rings c.self.inside.nodes.items c.self.inside.rings.items c.self.invariant, ring-count c.self.inside.nodes.items c.self.inside.rings.items c.args.self.now c.self.view_is, c.requires, ap length c.reserve-2.ensures.items)

made : (c : After-push_alone-2) → StandFor c.push_alone.new.links.items c.push_alone-2.new.links.items (grown c.args.self.now c.args.rings c.args.nodes)
made c =
    written-grown c.self.inside.nodes.items c.self.inside.rings.items c.reserve.new.self.items c.reserve-2.new.self.items c.push_alone.new.links.items c.push_alone-2.new.links.items c.args.self.now c.args.rings c.args.nodes c.self.invariant c.self.view_is
    c.reserve.ensures.items c.reserve-2.ensures.items c.push_alone.ensures c.push_alone-2.ensures c.requires

pub invariant_of-self-2 : goal.invariant_of-self-2
invariant_of-self-2 c = (made c).sound

pub returns-clause-lists : goal.returns-clause-lists
returns-clause-lists c = (made c).view

pub returns-clause-rings : goal.returns-clause-rings
returns-clause-rings c = (made c).sound.stand
