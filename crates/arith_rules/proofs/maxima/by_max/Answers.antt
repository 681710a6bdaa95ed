use Rattle.std.proofs.Common.{◌++◌, sym, ap, ◌∙◌}
use Rattle.rule_base.specs.Pairs.{first_sought}
use Rattle.rule_base.proofs.PairLaws.{front-found, back-found, first-of-three, second-of-three, third-of-three}
use Rattle.arith_rules.specs.declared.maxima.Tops.{Tops}
use Rattle.arith_rules.specs.MaxRows.{member_ranges, top_equations, unreached_equations, leader_equations}
use Rattle.arith_rules.specs.Tops.{false_above, leaders_above}
use Rattle.arith_rules.proofs.TopLaws.{unreached_is, leaders_is, max-parts}
use Rattle.arith_rules.proofs.maxima.by_max.Goals as goal

pub returns-then-is_some : goal.returns-then-is_some
returns-then-is_some c =
    let xs = c.args.ints.now in
    let z = c.args.c.now in
    front-found c.args.sought (member_ranges z xs) (top_equations z xs ++ unreached_equations z xs ++ leader_equations z xs xs) c.on_ranges-of_ranges.result c.on_ranges-of_ranges.ensures (sym c.is_some.ensures ∙ c.if-is_some.true)
    ∙ ap (first_sought c.args.sought) (max-parts z xs)

pub returns-then-is_some-2 : goal.returns-then-is_some-2
returns-then-is_some-2 c =
    let s = c.args.sought in
    let xs = c.args.ints.now in
    let z = c.args.c.now in
    back-found s (member_ranges z xs) (top_equations z xs ++ unreached_equations z xs ++ leader_equations z xs xs) c.on_ranges-of_ranges.result c.on_top-of_top.result c.on_ranges-of_ranges.ensures (sym c.is_some.ensures ∙ c.if-is_some.false)
    (first-of-three s (top_equations z xs) (unreached_equations z xs) (leader_equations z xs xs) c.on_top-of_top.result c.on_top-of_top.ensures (sym c.is_some-2.ensures ∙ c.if-is_some-2.true))
    ∙ ap (first_sought s) (max-parts z xs)

pub returns-then-is_some-3 : goal.returns-then-is_some-3
returns-then-is_some-3 c =
    let s = c.args.sought in
    let xs = c.args.ints.now in
    let z = c.args.c.now in
    let unreached = c.on_unreached-of_unreached.ensures ∙ ap (λ (t : Tops). first_sought s (false_above t.first z)) c.of-tops.ensures.shape ∙ ap (first_sought s) (unreached_is xs z c.requires.c.0) in
    back-found s (member_ranges z xs) (top_equations z xs ++ unreached_equations z xs ++ leader_equations z xs xs) c.on_ranges-of_ranges.result c.on_unreached-of_unreached.result c.on_ranges-of_ranges.ensures (sym c.is_some.ensures ∙ c.if-is_some.false)
    (second-of-three s (top_equations z xs) (unreached_equations z xs) (leader_equations z xs xs) c.on_top-of_top.result c.on_top-of_top.ensures c.on_unreached-of_unreached.result (sym c.is_some-2.ensures ∙ c.if-is_some-2.false) unreached (sym c.is_some-3.ensures ∙ c.if-is_some-3.true))
    ∙ ap (first_sought s) (max-parts z xs)

pub returns : goal.returns
returns c =
    let s = c.args.sought in
    let xs = c.args.ints.now in
    let z = c.args.c.now in
    let unreached = c.on_unreached-of_unreached.ensures ∙ ap (λ (t : Tops). first_sought s (false_above t.first z)) c.of-tops.ensures.shape ∙ ap (first_sought s) (unreached_is xs z c.requires.c.0) in
    let leaders = c.on_leaders.ensures ∙ ap (λ (t : Tops). first_sought s (leaders_above t.second z xs)) c.of-tops.ensures.shape ∙ ap (first_sought s) (leaders_is xs z c.requires.c.0 xs c.requires.ints) in
    back-found s (member_ranges z xs) (top_equations z xs ++ unreached_equations z xs ++ leader_equations z xs xs) c.on_ranges-of_ranges.result c.on_leaders.result c.on_ranges-of_ranges.ensures (sym c.is_some.ensures ∙ c.if-is_some.false)
    (third-of-three s (top_equations z xs) (unreached_equations z xs) (leader_equations z xs xs) c.on_top-of_top.result c.on_top-of_top.ensures c.on_unreached-of_unreached.result c.on_leaders.result (sym c.is_some-2.ensures ∙ c.if-is_some-2.false) unreached (sym c.is_some-3.ensures ∙ c.if-is_some-3.false) leaders)
    ∙ ap (first_sought s) (max-parts z xs)
