use Rattle.std.proofs.Common.{pos, length, sym, ap, ◌∙◌}
use Rattle.std.specs.Ordering.{int_eq}
use Rattle.order_ints.specs.declared.atom.Atom.TheVariants.{True, False}
use Rattle.order_ints.specs.OrderRange.{low_of, high_of}
use Rattle.rule_base.specs.Pairs.{first_sought, only_if}
use Rattle.rule_base.specs.Stated.{all_equal}
use Rattle.rule_base.proofs.PairLaws.{first-of-three, second-of-three, third-of-three}
use Rattle.arith_rules.specs.declared.ranges.Range.{Range}
use Rattle.arith_rules.specs.Links.{within}
use Rattle.arith_rules.proofs.sums.by_count.Goals as goal

pub returns-then-is_some : goal.returns-then-is_some
returns-then-is_some c =
    let s = c.args.sought in
    let ls = c.args.atoms.now in
    let z = c.args.c.now in
    let range = within z (pos 0) (pos (length ls)) in
    let all = only_if (int_eq (low_of z) (pos (length ls))) (all_equal ls True) in
    let none = only_if (int_eq (high_of z) (pos 0)) (all_equal ls False) in
    let on_range = c.holds-on_range.ensures ∙ ap (λ (r : Range). first_sought s (within z r.low r.high)) c.up_to-numbers.ensures.shape in
    first-of-three s range all none c.holds-on_range.result on_range (sym c.is_some.ensures ∙ c.if-is_some.true)

pub returns-then-is_some-2 : goal.returns-then-is_some-2
returns-then-is_some-2 c =
    let s = c.args.sought in
    let ls = c.args.atoms.now in
    let z = c.args.c.now in
    let range = within z (pos 0) (pos (length ls)) in
    let all = only_if (int_eq (low_of z) (pos (length ls))) (all_equal ls True) in
    let none = only_if (int_eq (high_of z) (pos 0)) (all_equal ls False) in
    let on_range = c.holds-on_range.ensures ∙ ap (λ (r : Range). first_sought s (within z r.low r.high)) c.up_to-numbers.ensures.shape in
    let on_all = c.each_where-on_all.ensures ∙ ap (λ t. first_sought s (only_if t (all_equal ls True))) (c.begins_at-all.ensures ∙ ap (λ (r : Range). int_eq r.low (pos (length ls))) c.of-z.ensures.shape) in
    second-of-three s range all none c.holds-on_range.result on_range c.each_where-on_all.result (sym c.is_some.ensures ∙ c.if-is_some.false) on_all (sym c.is_some-2.ensures ∙ c.if-is_some-2.true)

pub returns : goal.returns
returns c =
    let s = c.args.sought in
    let ls = c.args.atoms.now in
    let z = c.args.c.now in
    let range = within z (pos 0) (pos (length ls)) in
    let all = only_if (int_eq (low_of z) (pos (length ls))) (all_equal ls True) in
    let none = only_if (int_eq (high_of z) (pos 0)) (all_equal ls False) in
    let on_range = c.holds-on_range.ensures ∙ ap (λ (r : Range). first_sought s (within z r.low r.high)) c.up_to-numbers.ensures.shape in
    let on_all = c.each_where-on_all.ensures ∙ ap (λ t. first_sought s (only_if t (all_equal ls True))) (c.begins_at-all.ensures ∙ ap (λ (r : Range). int_eq r.low (pos (length ls))) c.of-z.ensures.shape) in
    let on_none = c.each_where.ensures ∙ ap (λ t. first_sought s (only_if t (all_equal ls False))) (c.ends_at_zero-none.ensures ∙ ap (λ (r : Range). int_eq r.high (pos 0)) c.of-z.ensures.shape) in
    third-of-three s range all none c.holds-on_range.result on_range c.each_where-on_all.result c.each_where.result (sym c.is_some.ensures ∙ c.if-is_some.false) on_all (sym c.is_some-2.ensures ∙ c.if-is_some-2.false) on_none
