use Rattle.std.proofs.Common.{rules, sym, ◌∙◌}
use Rattle.arith_rules.proofs.ProductFound.{negative-first, negative-second}
use Rattle.arith_rules.proofs.products.by_negative.Goals as goal

pub returns-then-is_some : goal.returns-then-is_some
returns-then-is_some c =
    negative-first c.args.sought c.args.b.now c.args.c.now c.args.k.now _ c.opposed_above-upwards.result c.opposed_above-upwards.ensures (sym c.is_some.ensures ∙ c.if-is_some.true)
    (search rules)

pub returns : goal.returns
returns c =
    negative-second c.args.sought c.args.b.now c.args.c.now c.args.k.now _ c.opposed_above-upwards.result c.opposed.result c.opposed_above-upwards.ensures (sym c.is_some.ensures ∙ c.if-is_some.false) c.opposed.ensures
    (search rules)
