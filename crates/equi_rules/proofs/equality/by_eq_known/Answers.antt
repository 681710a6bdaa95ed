use Rattle.std.proofs.Common.{sym, ◌∙◌}
use Rattle.order_ints.specs.Same.{is_true}
use Rattle.rule_base.proofs.PairLaws.{only_if-found, only_if-none}
use Rattle.equi_rules.specs.CompareRows.{eq_equations_true}
use Rattle.equi_rules.proofs.equality.by_eq_known.Goals as goal

pub returns-then-is_true : goal.returns-then-is_true
returns-then-is_true c =
    only_if-found c.args.sought (is_true c.args.r) (eq_equations_true c.args.a.now c.args.b.now) c.by_eq_true.result
    (sym c.is_true.ensures ∙ c.if-is_true.true) c.by_eq_true.ensures

pub returns : goal.returns
returns c =
    only_if-none c.args.sought (is_true c.args.r) (eq_equations_true c.args.a.now c.args.b.now) (sym c.is_true.ensures ∙ c.if-is_true.false)
