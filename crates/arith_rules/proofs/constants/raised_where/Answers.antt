use Rattle.std.proofs.Common.{sym, ◌∙◌}
use Rattle.order_ints.specs.OrderRange.{low_of}
use Rattle.rule_base.proofs.PairLaws.{only_if-found, only_if-none}
use Rattle.rule_base.specs.Constant.{is_constant}
use Rattle.arith_rules.specs.SumRows.{raised_equations}
use Rattle.arith_rules.proofs.constants.raised_where.Goals as goal

pub returns-then-is_constant : goal.returns-then-is_constant
returns-then-is_constant c =
    only_if-found c.args.sought (is_constant c.args.a.now) (raised_equations (low_of c.args.a.now) c.args.b.now c.args.c.now) c.by_raised.result
    (sym c.is_constant.ensures ∙ c.if-is_constant.true) c.by_raised.ensures

pub returns : goal.returns
returns c =
    only_if-none c.args.sought (is_constant c.args.a.now) (raised_equations (low_of c.args.a.now) c.args.b.now c.args.c.now) (sym c.is_constant.ensures ∙ c.if-is_constant.false)
