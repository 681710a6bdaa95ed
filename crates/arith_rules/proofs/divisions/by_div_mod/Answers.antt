use Rattle.std.proofs.Common.{sym, subst, ◌∙◌}
use Rattle.rule_base.specs.Pairs.{first_sought}
use Rattle.rule_base.proofs.PairLaws.{front-found, back-found}
use Rattle.arith_rules.specs.declared.ranges.Range.{Range}
use Rattle.arith_rules.specs.Ranges.{range_of}
use Rattle.arith_rules.specs.ProductRows.{quotient_equations, dividend_equations}
use Rattle.arith_rules.specs.DivisionRanges.{quotient_within, HaveSmallDividends, dividend_within}
use Rattle.arith_rules.proofs.DivisionFound.{dividends-small}
use Rattle.arith_rules.proofs.divisions.by_div_mod.Goals as goal

pub by_dividend-requires-clause-whole : goal.by_dividend-requires-clause-whole
by_dividend-requires-clause-whole c =
    let b = c.args.b.now in
    let q = c.args.q.now in
    let r = c.args.r.now in
    subst (λ (z : Range). HaveSmallDividends z c.of-y.result c.of-t.result) (sym c.of-z.ensures.shape)
    (subst (λ (y : Range). HaveSmallDividends (range_of q) y c.of-t.result) (sym c.of-y.ensures.shape)
    (subst (HaveSmallDividends (range_of q) (range_of b)) (sym c.of-t.ensures.shape) (dividends-small b q r c.requires.divisions)))

pub returns-then-is_some : goal.returns-then-is_some
returns-then-is_some c =
    let s = c.args.sought in
    let a = c.args.a.now in
    let b = c.args.b.now in
    let q = c.args.q.now in
    let r = c.args.r.now in
    let on_quotient = c.by_quotient-on_quotient.ensures ∙ (λ i. first_sought s (quotient_within q r (c.of-x.ensures.shape i) (c.of-y.ensures.shape i))) in
    front-found s (quotient_equations a b q r) (dividend_equations a b q r) c.by_quotient-on_quotient.result on_quotient (sym c.is_some.ensures ∙ c.if-is_some.true)

pub returns : goal.returns
returns c =
    let s = c.args.sought in
    let a = c.args.a.now in
    let b = c.args.b.now in
    let q = c.args.q.now in
    let r = c.args.r.now in
    let on_quotient = c.by_quotient-on_quotient.ensures ∙ (λ i. first_sought s (quotient_within q r (c.of-x.ensures.shape i) (c.of-y.ensures.shape i))) in
    let on_dividend = c.by_dividend.ensures ∙ (λ i. first_sought s (dividend_within a (c.of-z.ensures.shape i) (c.of-y.ensures.shape i) (c.of-t.ensures.shape i))) in
    back-found s (quotient_equations a b q r) (dividend_equations a b q r) c.by_quotient-on_quotient.result c.by_dividend.result on_quotient (sym c.is_some.ensures ∙ c.if-is_some.false) on_dividend
