use Rattle.std.proofs.Common.{arith}
use Rattle.index_ring.specs.Lists.{pushed_front}
use Rattle.index_ring.specs.Links.{view_of}
use Rattle.index_ring.proofs.Written.{StandFor, few-rings, first-is_place, written-pushed_front}
use Rattle.index_ring.proofs.moves.push_front.Goals as goal

pub sentinel-start-requires : goal.sentinel-start-requires
sentinel-start-requires c = omega (arith, few-rings c.args.nodes.now c.args.rings.now c.requires.sound)

pub join-requires-clause-to : goal.join-requires-clause-to
join-requires-clause-to c = first-is_place c.args.nodes.now c.args.rings.now c.requires.sound c.args.ring _ c.requires.ring

moved : (c : goal.After-rings-2-1) → StandFor c.join-2.new.nodes c.join-2.new.rings (pushed_front (view_of c.args.nodes.now c.args.rings.now) c.args.ring c.args.node)
moved c =
    written-pushed_front c.args.nodes.now c.args.rings.now c.join.new.nodes c.join.new.rings c.join-2.new.nodes c.join-2.new.rings c.requires.sound c.args.ring c.args.node _ c.requires.ring c.requires.node c.requires.free (omega arith) (omega arith)
    c.sentinel-start.result c.sentinel-start.ensures c.join.ensures c.join-2.ensures

pub returns-clause-view : goal.returns-clause-view
returns-clause-view c = (moved c).view

pub returns-clause-sound : goal.returns-clause-sound
returns-clause-sound c = (moved c).sound
