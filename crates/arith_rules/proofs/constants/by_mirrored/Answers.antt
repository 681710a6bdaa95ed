use Rattle.std.proofs.Common.{rules, sym, ◌∙◌}
use Rattle.order_ints.specs.OrderRange.{low_of}
use Rattle.arith_rules.proofs.LinkFound.{mirrored-first, mirrored-second}
use Rattle.arith_rules.proofs.constants.by_mirrored.Goals as goal

pub returns-then-is_some : goal.returns-then-is_some
returns-then-is_some c =
    mirrored-first c.args.sought c.args.a.now c.args.b.now (low_of c.args.c.now) _ c.opposed-first.result c.opposed-first.ensures (sym c.is_some.ensures ∙ c.if-is_some.true)
    (search (rules, c.low-k.ensures.value))

pub returns : goal.returns
returns c =
    mirrored-second c.args.sought c.args.a.now c.args.b.now (low_of c.args.c.now) _ c.opposed-first.result c.opposed_above.result c.opposed-first.ensures (sym c.is_some.ensures ∙ c.if-is_some.false) c.opposed_above.ensures
    (search (rules, c.low-k.ensures.value))
