use Rattle.std.proofs.Common.{[], ◌∷◌, sym, refl, ◌∙◌}
use Rattle.order_ints.specs.OrderRange.{low_of}
use Rattle.rule_base.specs.Pairs.{first_sought}
use Rattle.rule_base.specs.Stated.{at_least}
use Rattle.rule_base.proofs.PairLaws.{option_or-some, option_or-none}
use Rattle.equi_rules.proofs.RowFound.{same_value, next_value, leq_true-found}
use Rattle.equi_rules.proofs.comparison.by_leq_true.Goals as goal

pub returns-then-is_some : goal.returns-then-is_some
returns-then-is_some c =
    let other = first_sought c.args.sought (at_least c.args.b.now (low_of c.args.a.now) ∷ []) in
    sym (option_or-some c.is_below-below.result other (sym c.is_some.ensures ∙ c.if-is_some.true))
    ∙ leq_true-found c.args.sought c.args.a.now c.args.b.now _ (low_of c.args.a.now) c.is_below-below.result other
    (next_value c.high.result _ c.high.ensures.value c.requires.b.0.1) refl c.is_below-below.ensures refl

pub returns : goal.returns
returns c =
    sym (option_or-none c.is_below-below.result c.at_least.result (sym c.is_some.ensures ∙ c.if-is_some.false))
    ∙ leq_true-found c.args.sought c.args.a.now c.args.b.now _ _ c.is_below-below.result c.at_least.result
    (next_value c.high.result _ c.high.ensures.value c.requires.b.0.1) (same_value c.low.result _ c.low.ensures.value c.requires.a.0.0)
    c.is_below-below.ensures c.at_least.ensures
