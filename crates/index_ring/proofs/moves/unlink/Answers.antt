use Rattle.std.proofs.Common.{arith}
use Rattle.index_ring.specs.Lists.{unlinked}
use Rattle.index_ring.specs.Links.{view_of}
use Rattle.index_ring.proofs.Written.{StandFor, standing-from, before-is_place, behind-is_place, written-unlinked}
use Rattle.index_ring.proofs.moves.unlink.Goals as goal

pub join-requires-clause-from : goal.join-requires-clause-from
join-requires-clause-from c =
    before-is_place c.args.nodes.now c.args.rings.now c.requires.sound c.args.node (standing-from (view_of c.args.nodes.now c.args.rings.now) c.args.node c.requires.stands) _

pub join-requires-clause-to : goal.join-requires-clause-to
join-requires-clause-to c =
    behind-is_place c.args.nodes.now c.args.rings.now c.requires.sound c.args.node (standing-from (view_of c.args.nodes.now c.args.rings.now) c.args.node c.requires.stands) _

moved : (c : goal.After-rings-2-1) → StandFor c.join-2.new.nodes c.join-2.new.rings (unlinked (view_of c.args.nodes.now c.args.rings.now) c.args.node)
moved c =
    written-unlinked c.args.nodes.now c.args.rings.now c.requires.sound c.args.node (standing-from (view_of c.args.nodes.now c.args.rings.now) c.args.node c.requires.stands) _
    c.join.new.nodes c.join.new.rings c.join-2.new.nodes c.join-2.new.rings (omega arith) (omega arith) c.join.ensures c.join-2.ensures

pub returns-clause-view : goal.returns-clause-view
returns-clause-view c = (moved c).view

pub returns-clause-sound : goal.returns-clause-sound
returns-clause-sound c = (moved c).sound
