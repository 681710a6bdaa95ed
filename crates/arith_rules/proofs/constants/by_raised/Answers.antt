use Rattle.std.proofs.Common.{rules, sym, ◌∙◌}
use Rattle.order_ints.specs.OrderRange.{low_of}
use Rattle.arith_rules.proofs.LinkFound.{raised-first, raised-second}
use Rattle.arith_rules.proofs.constants.by_raised.Goals as goal

pub returns-then-is_some : goal.returns-then-is_some
returns-then-is_some c =
    raised-first c.args.sought c.args.b.now c.args.c.now (low_of c.args.a.now) _ c.linked-upwards.result c.linked-upwards.ensures (sym c.is_some.ensures ∙ c.if-is_some.true)
    (search (rules, c.low-k.ensures.value))

pub returns : goal.returns
returns c =
    raised-second c.args.sought c.args.b.now c.args.c.now (low_of c.args.a.now) _ c.linked-upwards.result c.linked_back.result c.linked-upwards.ensures (sym c.is_some.ensures ∙ c.if-is_some.false) c.linked_back.ensures
    (search (rules, c.low-k.ensures.value))
