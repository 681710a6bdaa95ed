use Rattle.std.proofs.Common.{◌++◌, sym, ◌∙◌}
use Rattle.order_ints.specs.OrderRange.{low_of}
use Rattle.rule_base.specs.Pairs.{only_if}
use Rattle.rule_base.specs.Constant.{is_constant}
use Rattle.rule_base.proofs.PairLaws.{front-found, back-found}
use Rattle.arith_rules.specs.ProductRows.{scaled_equations, prod_ranges}
use Rattle.arith_rules.proofs.ProductFound.{multiples-small, turned-small}
use Rattle.arith_rules.proofs.products.by_prod.Goals as goal

pub scaled_where-by_first-requires-clause-multiples : goal.scaled_where-by_first-requires-clause-multiples
scaled_where-by_first-requires-clause-multiples c = multiples-small c.args.a.now c.args.b.now c.requires.products

pub scaled_where-requires-clause-multiples : goal.scaled_where-requires-clause-multiples
scaled_where-requires-clause-multiples c = multiples-small c.args.b.now c.args.a.now (turned-small c.args.a.now c.args.b.now c.requires.products)

pub returns-then-is_some : goal.returns-then-is_some
returns-then-is_some c =
    let s = c.args.sought in
    let a = c.args.a.now in
    let b = c.args.b.now in
    let z = c.args.c.now in
    let first = only_if (is_constant a) (scaled_equations (low_of a) b z) in
    let second = only_if (is_constant b) (scaled_equations (low_of b) a z) in
    let found = front-found s (prod_ranges a b z) first c.by_prod_ranges-of_ranges.result c.by_prod_ranges-of_ranges.ensures (sym c.is_some.ensures ∙ c.if-is_some.true) in
    front-found s (prod_ranges a b z ++ first) second c.by_prod_ranges-of_ranges.result found (sym c.is_some.ensures ∙ c.if-is_some.true)

pub returns-then-is_some-2 : goal.returns-then-is_some-2
returns-then-is_some-2 c =
    let s = c.args.sought in
    let a = c.args.a.now in
    let b = c.args.b.now in
    let z = c.args.c.now in
    let first = only_if (is_constant a) (scaled_equations (low_of a) b z) in
    let second = only_if (is_constant b) (scaled_equations (low_of b) a z) in
    let found = back-found s (prod_ranges a b z) first c.by_prod_ranges-of_ranges.result c.scaled_where-by_first.result c.by_prod_ranges-of_ranges.ensures (sym c.is_some.ensures ∙ c.if-is_some.false) c.scaled_where-by_first.ensures in
    front-found s (prod_ranges a b z ++ first) second c.scaled_where-by_first.result found (sym c.is_some-2.ensures ∙ c.if-is_some-2.true)

pub returns : goal.returns
returns c =
    let s = c.args.sought in
    let a = c.args.a.now in
    let b = c.args.b.now in
    let z = c.args.c.now in
    let first = only_if (is_constant a) (scaled_equations (low_of a) b z) in
    let second = only_if (is_constant b) (scaled_equations (low_of b) a z) in
    let found = back-found s (prod_ranges a b z) first c.by_prod_ranges-of_ranges.result c.scaled_where-by_first.result c.by_prod_ranges-of_ranges.ensures (sym c.is_some.ensures ∙ c.if-is_some.false) c.scaled_where-by_first.ensures in
    back-found s (prod_ranges a b z ++ first) second c.scaled_where-by_first.result c.scaled_where.result found (sym c.is_some-2.ensures ∙ c.if-is_some-2.false) c.scaled_where.ensures
