use Rattle.std.proofs.Common.{sym, ◌∙◌}
use Rattle.rule_base.proofs.PairLaws.{front-found, back-found}
use Rattle.arith_rules.specs.SumRows.{sum3_ranges, sum3_constants}
use Rattle.arith_rules.proofs.constants.by_sum3.Goals as goal

pub returns-then-is_some : goal.returns-then-is_some
returns-then-is_some c =
    front-found c.args.sought (sum3_ranges c.args.a.now c.args.b.now c.args.c.now) (sum3_constants c.args.a.now c.args.b.now c.args.c.now) c.by_sum3_ranges-of_ranges.result
    c.by_sum3_ranges-of_ranges.ensures (sym c.is_some.ensures ∙ c.if-is_some.true)

pub returns : goal.returns
returns c =
    back-found c.args.sought (sum3_ranges c.args.a.now c.args.b.now c.args.c.now) (sum3_constants c.args.a.now c.args.b.now c.args.c.now) c.by_sum3_ranges-of_ranges.result c.by_sum3_constants.result
    c.by_sum3_ranges-of_ranges.ensures (sym c.is_some.ensures ∙ c.if-is_some.false) c.by_sum3_constants.ensures
