use Rattle.std.proofs.Common.{map, sym, ◌∙◌}
use Rattle.order_ints.specs.OrderLevels.{values_of}
use Rattle.rule_base.proofs.PairLaws.{front-found, back-found}
use Rattle.equi_rules.specs.CompareRows.{equal_at}
use Rattle.equi_rules.proofs.equality.by_eq_true.Goals as goal

pub returns-then-is_some : goal.returns-then-is_some
returns-then-is_some c =
    let at = equal_at c.args.a.now c.args.b.now in
    front-found c.args.sought (map at (values_of c.args.a.now)) (map at (values_of c.args.b.now)) c.at_values_of_first-first.result
    c.at_values_of_first-first.ensures (sym c.is_some.ensures ∙ c.if-is_some.true)

pub returns : goal.returns
returns c =
    let at = equal_at c.args.a.now c.args.b.now in
    back-found c.args.sought (map at (values_of c.args.a.now)) (map at (values_of c.args.b.now)) c.at_values_of_first-first.result c.at_values_of_second.result
    c.at_values_of_first-first.ensures (sym c.is_some.ensures ∙ c.if-is_some.false) c.at_values_of_second.ensures
