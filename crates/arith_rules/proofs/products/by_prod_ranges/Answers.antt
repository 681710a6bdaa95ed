use Rattle.std.proofs.Common.{sym, ap, subst, ◌∙◌}
use Rattle.rule_base.specs.Pairs.{first_sought}
use Rattle.rule_base.proofs.PairLaws.{first-of-three, second-of-three, third-of-three}
use Rattle.arith_rules.specs.declared.ranges.Range.{Range}
use Rattle.arith_rules.specs.Links.{within}
use Rattle.arith_rules.specs.ProductRows.{least_product, greatest_product, factor_equations}
use Rattle.arith_rules.specs.ProductRanges.{products_of, HaveSmallCorners, factor_within}
use Rattle.arith_rules.proofs.ProductFound.{corners-small}
use Rattle.arith_rules.proofs.products.by_prod_ranges.Goals as goal

pub products_of-products-requires : goal.products_of-products-requires
products_of-products-requires c =
    subst (λ (x : Range). HaveSmallCorners x c.of-y.result) (sym c.of-x.ensures.shape)
    (subst (HaveSmallCorners _) (sym c.of-y.ensures.shape) (corners-small c.args.a.now c.args.b.now c.requires.products))

pub returns-then-is_some : goal.returns-then-is_some
returns-then-is_some c =
    let s = c.args.sought in
    let a = c.args.a.now in
    let b = c.args.b.now in
    let z = c.args.c.now in
    let range = within z (least_product a b) (greatest_product a b) in
    let on_product = c.holds-on_product.ensures ∙ ap (λ (r : Range). first_sought s (within z r.low r.high)) (c.products_of-products.ensures.shape ∙ (λ i. products_of (c.of-x.ensures.shape i) (c.of-y.ensures.shape i))) in
    first-of-three s range (factor_equations a b z) (factor_equations b a z) c.holds-on_product.result on_product (sym c.is_some.ensures ∙ c.if-is_some.true)

pub returns-then-is_some-2 : goal.returns-then-is_some-2
returns-then-is_some-2 c =
    let s = c.args.sought in
    let a = c.args.a.now in
    let b = c.args.b.now in
    let z = c.args.c.now in
    let range = within z (least_product a b) (greatest_product a b) in
    let on_product = c.holds-on_product.ensures ∙ ap (λ (r : Range). first_sought s (within z r.low r.high)) (c.products_of-products.ensures.shape ∙ (λ i. products_of (c.of-x.ensures.shape i) (c.of-y.ensures.shape i))) in
    let on_first = c.by_factor-on_first.ensures ∙ (λ i. first_sought s (factor_within a (c.of-x.ensures.shape i) (c.of-y.ensures.shape i) (c.of-z.ensures.shape i))) in
    second-of-three s range (factor_equations a b z) (factor_equations b a z) c.holds-on_product.result on_product c.by_factor-on_first.result (sym c.is_some.ensures ∙ c.if-is_some.false) on_first (sym c.is_some-2.ensures ∙ c.if-is_some-2.true)

pub returns : goal.returns
returns c =
    let s = c.args.sought in
    let a = c.args.a.now in
    let b = c.args.b.now in
    let z = c.args.c.now in
    let range = within z (least_product a b) (greatest_product a b) in
    let on_product = c.holds-on_product.ensures ∙ ap (λ (r : Range). first_sought s (within z r.low r.high)) (c.products_of-products.ensures.shape ∙ (λ i. products_of (c.of-x.ensures.shape i) (c.of-y.ensures.shape i))) in
    let on_first = c.by_factor-on_first.ensures ∙ (λ i. first_sought s (factor_within a (c.of-x.ensures.shape i) (c.of-y.ensures.shape i) (c.of-z.ensures.shape i))) in
    let on_second = c.by_factor.ensures ∙ (λ i. first_sought s (factor_within b (c.of-y.ensures.shape i) (c.of-x.ensures.shape i) (c.of-z.ensures.shape i))) in
    third-of-three s range (factor_equations a b z) (factor_equations b a z) c.holds-on_product.result on_product c.by_factor-on_first.result c.by_factor.result (sym c.is_some.ensures ∙ c.if-is_some.false) on_first (sym c.is_some-2.ensures ∙ c.if-is_some-2.false) on_second
