use Rattle.std.proofs.Common.{rules, sym, ◌∙◌}
use Rattle.arith_rules.proofs.ProductFound.{multiple-first, multiple-second}
use Rattle.arith_rules.proofs.products.by_multiple.Goals as goal

pub returns-then-is_some : goal.returns-then-is_some
returns-then-is_some c =
    multiple-first c.args.sought c.args.b.now c.args.c.now c.args.k.now _ c.linked_back-upwards.result c.linked_back-upwards.ensures (sym c.is_some.ensures ∙ c.if-is_some.true)
    (search rules)

pub returns : goal.returns
returns c =
    multiple-second c.args.sought c.args.b.now c.args.c.now c.args.k.now _ c.linked_back-upwards.result c.linked.result c.linked_back-upwards.ensures (sym c.is_some.ensures ∙ c.if-is_some.false) c.linked.ensures
    (search rules)
