use Rattle.std.proofs.Common.{◌∙◌, sym}
use Rattle.equation_store.specs.Ring.{behind}
use Rattle.equation_store.proofs.Rings.{comes-back, goes-on}
use Rattle.equation_store.proofs.classes.member_behind.Goals as goal

pub returns-then-is_of : goal.returns-then-is_of
returns-then-is_of c x of_x =
    comes-back c.args.labels.now _ c.args.var x (behind c.args.next.now c.args.var) c.requires.low c.requires.high of_x (sym c.is_of.ensures ∙ c.if-is_of.true)

pub returns-else-is_of : goal.returns-else-is_of
returns-else-is_of c x of_x =
    goes-on c.args.labels.now _ c.args.var x (behind c.args.next.now c.args.var) c.requires.low c.requires.high of_x (sym c.is_of.ensures ∙ c.if-is_of.false)
