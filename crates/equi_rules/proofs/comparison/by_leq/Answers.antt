use Rattle.std.proofs.Common.{sym, ◌∙◌}
use Rattle.rule_base.proofs.PairLaws.{first-of-three, second-of-three, third-of-three}
use Rattle.equi_rules.specs.CompareRows.{leq_equations_known, leq_equations_decided, leq_equations_constant}
use Rattle.equi_rules.proofs.comparison.by_leq.Goals as goal

pub returns-then-is_some : goal.returns-then-is_some
returns-then-is_some c =
    first-of-three c.args.sought (leq_equations_known c.args.r c.args.a.now c.args.b.now) (leq_equations_decided c.args.r c.args.a.now c.args.b.now) (leq_equations_constant c.args.r c.args.a.now c.args.b.now) c.by_leq_known-known.result c.by_leq_known-known.ensures (sym c.is_some.ensures ∙ c.if-is_some.true)

pub returns-then-is_some-2 : goal.returns-then-is_some-2
returns-then-is_some-2 c =
    second-of-three c.args.sought (leq_equations_known c.args.r c.args.a.now c.args.b.now) (leq_equations_decided c.args.r c.args.a.now c.args.b.now) (leq_equations_constant c.args.r c.args.a.now c.args.b.now) c.by_leq_known-known.result c.by_leq_known-known.ensures c.by_leq_decided-decided.result (sym c.is_some.ensures ∙ c.if-is_some.false) c.by_leq_decided-decided.ensures (sym c.is_some-2.ensures ∙ c.if-is_some-2.true)

pub returns : goal.returns
returns c =
    third-of-three c.args.sought (leq_equations_known c.args.r c.args.a.now c.args.b.now) (leq_equations_decided c.args.r c.args.a.now c.args.b.now) (leq_equations_constant c.args.r c.args.a.now c.args.b.now) c.by_leq_known-known.result c.by_leq_known-known.ensures c.by_leq_decided-decided.result c.by_leq_constant.result (sym c.is_some.ensures ∙ c.if-is_some.false) c.by_leq_decided-decided.ensures (sym c.is_some-2.ensures ∙ c.if-is_some-2.false) c.by_leq_constant.ensures
