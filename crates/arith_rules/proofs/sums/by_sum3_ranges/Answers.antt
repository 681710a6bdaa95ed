use Rattle.std.proofs.Common.{◌+ℤ◌, ◌-ℤ◌, sym, ap, ◌∙◌}
use Rattle.order_ints.specs.OrderRange.{low_of, high_of}
use Rattle.rule_base.specs.Pairs.{first_sought}
use Rattle.rule_base.proofs.PairLaws.{first-of-three, second-of-three, third-of-three}
use Rattle.arith_rules.specs.declared.ranges.Range.{Range}
use Rattle.arith_rules.specs.Links.{within}
use Rattle.arith_rules.specs.Ranges.{sum_of, rest_of}
use Rattle.arith_rules.proofs.sums.by_sum3_ranges.Goals as goal

pub returns-then-is_some : goal.returns-then-is_some
returns-then-is_some c =
    let s = c.args.sought in
    let x = c.args.a.now in
    let y = c.args.b.now in
    let z = c.args.c.now in
    let sum = within z (low_of x +ℤ low_of y) (high_of x +ℤ high_of y) in
    let first = within x (low_of z -ℤ high_of y) (high_of z -ℤ low_of y) in
    let second = within y (low_of z -ℤ high_of x) (high_of z -ℤ low_of x) in
    let on_sum = c.holds-on_sum.ensures ∙ ap (λ (r : Range). first_sought s (within z r.low r.high)) (c.plus-total.ensures.shape ∙ (λ i. sum_of (c.of-x.ensures.shape i) (c.of-y.ensures.shape i))) in
    first-of-three s sum first second c.holds-on_sum.result on_sum (sym c.is_some.ensures ∙ c.if-is_some.true)

pub returns-then-is_some-2 : goal.returns-then-is_some-2
returns-then-is_some-2 c =
    let s = c.args.sought in
    let x = c.args.a.now in
    let y = c.args.b.now in
    let z = c.args.c.now in
    let sum = within z (low_of x +ℤ low_of y) (high_of x +ℤ high_of y) in
    let first = within x (low_of z -ℤ high_of y) (high_of z -ℤ low_of y) in
    let second = within y (low_of z -ℤ high_of x) (high_of z -ℤ low_of x) in
    let on_sum = c.holds-on_sum.ensures ∙ ap (λ (r : Range). first_sought s (within z r.low r.high)) (c.plus-total.ensures.shape ∙ (λ i. sum_of (c.of-x.ensures.shape i) (c.of-y.ensures.shape i))) in
    let on_first = c.holds-on_first.ensures ∙ ap (λ (r : Range). first_sought s (within x r.low r.high)) (c.less-first_rest.ensures.shape ∙ (λ i. rest_of (c.of-z.ensures.shape i) (c.of-y.ensures.shape i))) in
    second-of-three s sum first second c.holds-on_sum.result on_sum c.holds-on_first.result (sym c.is_some.ensures ∙ c.if-is_some.false) on_first (sym c.is_some-2.ensures ∙ c.if-is_some-2.true)

pub returns : goal.returns
returns c =
    let s = c.args.sought in
    let x = c.args.a.now in
    let y = c.args.b.now in
    let z = c.args.c.now in
    let sum = within z (low_of x +ℤ low_of y) (high_of x +ℤ high_of y) in
    let first = within x (low_of z -ℤ high_of y) (high_of z -ℤ low_of y) in
    let second = within y (low_of z -ℤ high_of x) (high_of z -ℤ low_of x) in
    let on_sum = c.holds-on_sum.ensures ∙ ap (λ (r : Range). first_sought s (within z r.low r.high)) (c.plus-total.ensures.shape ∙ (λ i. sum_of (c.of-x.ensures.shape i) (c.of-y.ensures.shape i))) in
    let on_first = c.holds-on_first.ensures ∙ ap (λ (r : Range). first_sought s (within x r.low r.high)) (c.less-first_rest.ensures.shape ∙ (λ i. rest_of (c.of-z.ensures.shape i) (c.of-y.ensures.shape i))) in
    let on_second = c.holds.ensures ∙ ap (λ (r : Range). first_sought s (within y r.low r.high)) (c.less-second_rest.ensures.shape ∙ (λ i. rest_of (c.of-z.ensures.shape i) (c.of-x.ensures.shape i))) in
    third-of-three s sum first second c.holds-on_sum.result on_sum c.holds-on_first.result c.holds.result (sym c.is_some.ensures ∙ c.if-is_some.false) on_first (sym c.is_some-2.ensures ∙ c.if-is_some-2.false) on_second
