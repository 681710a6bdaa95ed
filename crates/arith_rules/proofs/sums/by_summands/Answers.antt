use Rattle.std.proofs.Common.{List, ◌==◌, length, sym, ap, ◌∙◌}
use Rattle.order_ints.specs.declared.order_int.OrdInt.{OrdInt}
use Rattle.rule_base.specs.declared.sought.SoughtEquation.{SoughtEquation}
use Rattle.rule_base.specs.declared.sought.SoughtEquation.TheVariants.{Apart}
use Rattle.rule_base.specs.Pairs.{first_sought}
use Rattle.arith_rules.specs.SumRows.{lows_of, highs_of, last_share, sum_equations}
use Rattle.arith_rules.proofs.LastMember.{last-alone}
use Rattle.arith_rules.proofs.SumFound.{some-sum}
use Rattle.arith_rules.proofs.sums.by_summands.Goals as goal

pub returns-then-binds_last_alone : goal.returns-then-binds_last_alone
returns-then-binds_last_alone c =
    let xs = c.args.ints.now in
    let k = c.args.k.now in
    c.by_last.ensures
    ∙ ap (λ (ys : List OrdInt). first_sought Apart (last_share k (lows_of ys) (highs_of ys) ys)) c.as_slice-members.ensures
    ∙ last-alone k (lows_of xs) (highs_of xs) xs (c.binds_last_alone.ensures c.if-binds_last_alone.true)
    ∙ ap (first_sought Apart) (some-sum xs k (sym (c.is_empty.ensures ∙ ap (λ (ys : List OrdInt). length ys == 0) c.as_slice-members.ensures) ∙ c.if-not-is_empty.true))
    ∙ ap (λ (s : SoughtEquation). first_sought s (sum_equations xs k)) (sym c.in-Apart.is)
