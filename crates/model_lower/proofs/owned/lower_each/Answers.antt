use Rattle.std.proofs.Common.{rules, ◌≡◌, ◌∷◌, ap, ◌∙◌}
use Rattle.std.specs.Prelude.{reverse}
use Rattle.std.proofs.lemmas.List.{reverse-reverse}
use Rattle.model_items.specs.Items.{Statement, declared_item, behind_declared, items_of}
use Rattle.model_lower.specs.Lowering.{lowered_items, nothing_lowered}
use Rattle.model_lower.specs.Drafting.{lowered_so_far}
use Rattle.model_lower.proofs.NextItem.{declaration-next}
use Rattle.model_lower.proofs.Walking.{at-start, item-limit, item-room, behind-item}
use Rattle.model_lower.proofs.owned.lower_each.Goals as goal

pub take_statement-requires-clause-entries : goal.take_statement-requires-clause-entries
take_statement-requires-clause-entries c = c.loop-stmt.invariant.entries

pub take_statement-requires-clause-limit : goal.take_statement-requires-clause-limit
take_statement-requires-clause-limit c =
    let all = lowered_items nothing_lowered (items_of c.args.decls.now c.args.stmts.items) in
    item-limit (lowered_so_far c.loop-stmt.draft) all (Statement c.in-Some.stmt) (items_of c.loop-stmt.rest.now (reverse c.next_statement.new.left.items)) (items_of c.loop-stmt.rest.now (reverse c.loop-stmt.left.items))
    c.in-Some.ensures.next c.loop-stmt.invariant

pub take_statement-requires-clause-room : goal.take_statement-requires-clause-room
take_statement-requires-clause-room c =
    let all = lowered_items nothing_lowered (items_of c.args.decls.now c.args.stmts.items) in
    item-room (lowered_so_far c.loop-stmt.draft) all (Statement c.in-Some.stmt) (items_of c.loop-stmt.rest.now (reverse c.next_statement.new.left.items)) (items_of c.loop-stmt.rest.now (reverse c.loop-stmt.left.items))
    c.in-Some.ensures.next c.loop-stmt.invariant c.requires.room

pub add_declared-requires : goal.add_declared-requires
add_declared-requires c =
    let all = lowered_items nothing_lowered (items_of c.args.decls.now c.args.stmts.items) in
    let ss = reverse c.loop-stmt.left.items in
    let d = c.in-Some-split_first.decl.now in
    let others = c.in-Some-split_first.others.now in
    let parts : c.loop-stmt.rest.now ≡ d ∷ others = search (rules, c.in-Some-split_first.ensures.cases) in
    let kept : c.next_statement.new.left.items ≡ c.loop-stmt.left.items = search (rules, c.in_default.ensures.next) in
    let next = declaration-next c.loop-stmt.rest.now others d ss parts c.in_default.ensures.next.1 in
    record { room = rw kept (item-room (lowered_so_far c.loop-stmt.draft) all (declared_item d ss) (items_of others (behind_declared d ss)) (items_of c.loop-stmt.rest.now ss) next c.loop-stmt.invariant c.requires.room) }

pub loop-stmt-init : goal.loop-stmt-init
loop-stmt-init c =
    let ds = c.args.decls.now in
    let kept : reverse c.reverse.new.self.items ≡ c.args.stmts.items = ap reverse c.reverse.ensures.items ∙ reverse-reverse c.args.stmts.items in
    rw (kept, c.new-draft.ensures) (at-start ds c.args.stmts.items c.requires.decls c.requires.stmts)

pub loop-stmt-preserved : goal.loop-stmt-preserved
loop-stmt-preserved c =
    let all = lowered_items nothing_lowered (items_of c.args.decls.now c.args.stmts.items) in
    let ss = reverse c.loop-stmt.left.items in
    let d = c.in-Some-split_first.decl.now in
    let others = c.in-Some-split_first.others.now in
    let parts : c.loop-stmt.rest.now ≡ d ∷ others = search (rules, c.in-Some-split_first.ensures.cases) in
    let kept : c.next_statement.new.left.items ≡ c.loop-stmt.left.items = search (rules, c.in_default.ensures.next) in
    let next = declaration-next c.loop-stmt.rest.now others d ss parts c.in_default.ensures.next.1 in
    let behind : reverse c.add_declared.new.left.items ≡ behind_declared d ss = rw kept at c.in_ok-add_declared.ensures.left in
    let done = rw kept at c.in_ok-add_declared.ensures.lowered in
    rw behind (behind-item (lowered_so_far c.loop-stmt.draft) all (declared_item d ss) (items_of others (behind_declared d ss)) (items_of c.loop-stmt.rest.now ss) next c.loop-stmt.invariant (lowered_so_far c.add_declared.new.draft) done)
