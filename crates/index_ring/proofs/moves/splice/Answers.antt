use Rattle.std.proofs.Common.{arith, ◌∙◌}
use Rattle.index_ring.specs.Lists.{spliced}
use Rattle.index_ring.specs.Links.{view_of}
use Rattle.index_ring.proofs.Written.{StandFor, few-rings, first-is_place, last-is_place, place-kept, written-spliced, written-nothing}
use Rattle.index_ring.proofs.moves.splice.Goals as goal

pub sentinel-emptied-requires : goal.sentinel-emptied-requires
sentinel-emptied-requires c = omega (arith, few-rings c.args.nodes.now c.args.rings.now c.requires.sound)

pub sentinel-end-requires : goal.sentinel-end-requires
sentinel-end-requires c = omega (arith, few-rings c.args.nodes.now c.args.rings.now c.requires.sound)

pub join-requires-clause-from : goal.join-requires-clause-from
join-requires-clause-from c = last-is_place c.args.nodes.now c.args.rings.now c.requires.sound c.args.into _ c.requires.into

pub join-requires-clause-to : goal.join-requires-clause-to
join-requires-clause-to c = first-is_place c.args.nodes.now c.args.rings.now c.requires.sound c.args.from _ c.requires.from

pub join-requires-then-next-emptied-clause-from : goal.join-requires-then-next-emptied-clause-from
join-requires-then-next-emptied-clause-from c =
    place-kept c.args.nodes.now c.args.rings.now c.join.new.nodes c.join.new.rings _ (omega arith) (omega arith) (last-is_place c.args.nodes.now c.args.rings.now c.requires.sound c.args.from _ c.requires.from)

moved : (c : goal.After-rings-then-next-emptied-2-1) → StandFor c.join-then-next-emptied-2.new.nodes c.join-then-next-emptied-2.new.rings (spliced (view_of c.args.nodes.now c.args.rings.now) c.args.from c.args.into)
moved c =
    written-spliced c.args.nodes.now c.args.rings.now c.requires.sound c.args.from c.args.into _ c.requires.from c.requires.into c.requires.apart
    c.join.new.nodes c.join.new.rings c.join-then-next-emptied.new.nodes c.join-then-next-emptied.new.rings c.join-then-next-emptied-2.new.nodes c.join-then-next-emptied-2.new.rings
    c.sentinel-emptied.result c.sentinel-end.result c.sentinel-emptied.ensures c.sentinel-end.ensures c.if-next-emptied.true (omega arith) (omega arith)
    c.join.ensures c.join-then-next-emptied.ensures c.join-then-next-emptied-2.ensures

pub returns-then-next-emptied-clause-view : goal.returns-then-next-emptied-clause-view
returns-then-next-emptied-clause-view c = (moved c).view

pub returns-then-next-emptied-clause-sound : goal.returns-then-next-emptied-clause-sound
returns-then-next-emptied-clause-sound c = (moved c).sound

pub returns-else-next-emptied-clause-view : goal.returns-else-next-emptied-clause-view
returns-else-next-emptied-clause-view c =
    written-nothing c.args.nodes.now c.args.rings.now c.requires.sound c.args.from c.args.into _ c.requires.from c.requires.into c.requires.apart (c.if-next-emptied.false ∙ c.sentinel-emptied.ensures)
