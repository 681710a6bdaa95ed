use Rattle.std.proofs.Common.{sym, ap, ◌∙◌}
use Rattle.order_ints.specs.OrderRange.{low_of}
use Rattle.rule_base.specs.Pairs.{first_sought}
use Rattle.rule_base.proofs.PairLaws.{only_if-found, only_if-none}
use Rattle.rule_base.specs.Constant.{is_constant}
use Rattle.equi_rules.specs.CompareRows.{eq_equations_value}
use Rattle.equi_rules.proofs.RowFound.{same_value}
use Rattle.equi_rules.proofs.equality.by_eq_constant.Goals as goal

pub returns-then-is_constant : goal.returns-then-is_constant
returns-then-is_constant c =
    only_if-found c.args.sought (is_constant c.args.a.now) (eq_equations_value c.args.r (low_of c.args.a.now) c.args.d.now) c.by_eq_value.result
    (sym c.is_constant.ensures ∙ c.if-is_constant.true)
    (c.by_eq_value.ensures ∙ ap (λ v. first_sought c.args.sought (eq_equations_value c.args.r v c.args.d.now)) (same_value c.low.result _ c.low.ensures.value c.requires.a.0.0))

pub returns : goal.returns
returns c =
    only_if-none c.args.sought (is_constant c.args.a.now) (eq_equations_value c.args.r (low_of c.args.a.now) c.args.d.now) (sym c.is_constant.ensures ∙ c.if-is_constant.false)
