use Rattle.std.proofs.Common.{[], ◌∷◌, sym, refl, ◌∙◌}
use Rattle.order_ints.specs.OrderRange.{high_of}
use Rattle.rule_base.specs.Pairs.{first_sought}
use Rattle.rule_base.specs.Stated.{is_below}
use Rattle.rule_base.proofs.PairLaws.{option_or-some, option_or-none}
use Rattle.equi_rules.proofs.RowFound.{same_value, next_value, leq_false-found}
use Rattle.equi_rules.proofs.comparison.by_leq_false.Goals as goal

pub returns-then-is_some : goal.returns-then-is_some
returns-then-is_some c =
    let other = first_sought c.args.sought (is_below c.args.b.now (high_of c.args.a.now) ∷ []) in
    sym (option_or-some c.at_least-above.result other (sym c.is_some.ensures ∙ c.if-is_some.true))
    ∙ leq_false-found c.args.sought c.args.a.now c.args.b.now _ (high_of c.args.a.now) c.at_least-above.result other
    (next_value c.low.result _ c.low.ensures.value c.requires.b.0.0) refl c.at_least-above.ensures refl

pub returns : goal.returns
returns c =
    sym (option_or-none c.at_least-above.result c.is_below.result (sym c.is_some.ensures ∙ c.if-is_some.false))
    ∙ leq_false-found c.args.sought c.args.a.now c.args.b.now _ _ c.at_least-above.result c.is_below.result
    (next_value c.low.result _ c.low.ensures.value c.requires.b.0.0) (same_value c.high.result _ c.high.ensures.value c.requires.a.0.1)
    c.at_least-above.ensures c.is_below.ensures
