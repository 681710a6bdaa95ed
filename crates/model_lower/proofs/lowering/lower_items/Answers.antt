use Rattle.model_items.specs.Lent.{lent_item}
use Rattle.model_lower.specs.Lowering.{lowered_of}
use Rattle.model_lower.specs.Drafting.{lowered_so_far}
use Rattle.model_lower.proofs.Walking.{item-limit, item-room, behind-item}
use Rattle.model_lower.proofs.lowering.lower_items.Goals as goal

pub add_item-requires-clause-entries : goal.add_item-requires-clause-entries
add_item-requires-clause-entries c = c.loop-item.invariant.entries

pub add_item-requires-clause-limit : goal.add_item-requires-clause-limit
add_item-requires-clause-limit c =
    item-limit (lowered_so_far c.loop-item.draft) (lowered_of c.args.model.now) (lent_item c.in-Some.item) c.next_item.new.self c.loop-item.left
    c.in-Some.ensures c.loop-item.invariant

pub add_item-requires-clause-room : goal.add_item-requires-clause-room
add_item-requires-clause-room c =
    item-room (lowered_so_far c.loop-item.draft) (lowered_of c.args.model.now) (lent_item c.in-Some.item) c.next_item.new.self c.loop-item.left
    c.in-Some.ensures c.loop-item.invariant c.requires.room

pub loop-item-preserved : goal.loop-item-preserved
loop-item-preserved c =
    behind-item (lowered_so_far c.loop-item.draft) (lowered_of c.args.model.now) (lent_item c.in-Some.item) c.next_item.new.self c.loop-item.left
    c.in-Some.ensures c.loop-item.invariant (lowered_so_far c.add_item.new.draft) c.in_ok-add_item.ensures
