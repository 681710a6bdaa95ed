use Rattle.std.proofs.Common.{arith}
use Rattle.index_ring.specs.Lists.{pushed_back}
use Rattle.index_ring.specs.Links.{view_of}
use Rattle.index_ring.proofs.Written.{StandFor, few-rings, last-is_place, written-pushed_back}
use Rattle.index_ring.proofs.moves.push_back.Goals as goal

pub sentinel-end-requires : goal.sentinel-end-requires
sentinel-end-requires c = omega (arith, few-rings c.args.nodes.now c.args.rings.now c.requires.sound)

pub join-requires-clause-from : goal.join-requires-clause-from
join-requires-clause-from c = last-is_place c.args.nodes.now c.args.rings.now c.requires.sound c.args.ring _ c.requires.ring

moved : (c : goal.After-rings-2-1) → StandFor c.join-2.new.nodes c.join-2.new.rings (pushed_back (view_of c.args.nodes.now c.args.rings.now) c.args.ring c.args.node)
moved c =
    written-pushed_back c.args.nodes.now c.args.rings.now c.join.new.nodes c.join.new.rings c.join-2.new.nodes c.join-2.new.rings c.requires.sound c.args.ring c.args.node _ c.requires.ring c.requires.node c.requires.free (omega arith) (omega arith)
    c.sentinel-end.result c.sentinel-end.ensures c.join.ensures c.join-2.ensures

pub returns-clause-view : goal.returns-clause-view
returns-clause-view c = (moved c).view

pub returns-clause-sound : goal.returns-clause-sound
returns-clause-sound c = (moved c).sound
