use Rattle.std.proofs.Common.{sym, ◌∙◌}
use Rattle.order_ints.specs.OrderRange.{low_of}
use Rattle.rule_base.proofs.PairLaws.{only_if-found, only_if-none}
use Rattle.rule_base.specs.Constant.{is_constant}
use Rattle.arith_rules.specs.SumRows.{mirrored_equations}
use Rattle.arith_rules.proofs.constants.mirrored_where.Goals as goal

pub returns-then-is_constant : goal.returns-then-is_constant
returns-then-is_constant c =
    only_if-found c.args.sought (is_constant c.args.c.now) (mirrored_equations (low_of c.args.c.now) c.args.a.now c.args.b.now) c.by_mirrored.result
    (sym c.is_constant.ensures ∙ c.if-is_constant.true) c.by_mirrored.ensures

pub returns : goal.returns
returns c =
    only_if-none c.args.sought (is_constant c.args.c.now) (mirrored_equations (low_of c.args.c.now) c.args.a.now c.args.b.now) (sym c.is_constant.ensures ∙ c.if-is_constant.false)
