use Rattle.std.proofs.Common.{sym, ◌∙◌}
use Rattle.order_ints.specs.Same.{is_true}
use Rattle.rule_base.specs.Pairs.{only_if}
use Rattle.rule_base.proofs.PairLaws.{first-of-three, second-of-three, third-of-three}
use Rattle.equi_rules.specs.CompareRows.{eq_equations_true, eq_equations_constant}
use Rattle.equi_rules.proofs.equality.by_eq_terms.Goals as goal

pub returns-then-is_some : goal.returns-then-is_some
returns-then-is_some c =
    first-of-three c.args.sought (only_if (is_true c.args.r) (eq_equations_true c.args.a.now c.args.b.now)) (eq_equations_constant c.args.r c.args.a.now c.args.b.now) (eq_equations_constant c.args.r c.args.b.now c.args.a.now) c.by_eq_known-known.result c.by_eq_known-known.ensures (sym c.is_some.ensures ∙ c.if-is_some.true)

pub returns-then-is_some-2 : goal.returns-then-is_some-2
returns-then-is_some-2 c =
    second-of-three c.args.sought (only_if (is_true c.args.r) (eq_equations_true c.args.a.now c.args.b.now)) (eq_equations_constant c.args.r c.args.a.now c.args.b.now) (eq_equations_constant c.args.r c.args.b.now c.args.a.now) c.by_eq_known-known.result c.by_eq_known-known.ensures c.by_eq_constant-first.result (sym c.is_some.ensures ∙ c.if-is_some.false) c.by_eq_constant-first.ensures (sym c.is_some-2.ensures ∙ c.if-is_some-2.true)

pub returns : goal.returns
returns c =
    third-of-three c.args.sought (only_if (is_true c.args.r) (eq_equations_true c.args.a.now c.args.b.now)) (eq_equations_constant c.args.r c.args.a.now c.args.b.now) (eq_equations_constant c.args.r c.args.b.now c.args.a.now) c.by_eq_known-known.result c.by_eq_known-known.ensures c.by_eq_constant-first.result c.by_eq_constant.result (sym c.is_some.ensures ∙ c.if-is_some.false) c.by_eq_constant-first.ensures (sym c.is_some-2.ensures ∙ c.if-is_some-2.false) c.by_eq_constant.ensures
