use Rattle.std.proofs.Common.{sym, ◌∙◌}
use Rattle.order_ints.specs.OrderRange.{low_of}
use Rattle.rule_base.specs.Pairs.{only_if}
use Rattle.rule_base.proofs.PairLaws.{first-of-three, second-of-three, third-of-three}
use Rattle.rule_base.specs.Constant.{is_constant}
use Rattle.arith_rules.specs.SumRows.{raised_equations, mirrored_equations}
use Rattle.arith_rules.proofs.constants.by_sum3_constants.Goals as goal

pub returns-then-is_some : goal.returns-then-is_some
returns-then-is_some c =
    let x = c.args.a.now in
    let y = c.args.b.now in
    let z = c.args.c.now in
    let first = only_if (is_constant x) (raised_equations (low_of x) y z) in
    let second = only_if (is_constant y) (raised_equations (low_of y) x z) in
    let third = only_if (is_constant z) (mirrored_equations (low_of z) x y) in
    first-of-three c.args.sought first second third c.raised_where-first.result c.raised_where-first.ensures (sym c.is_some.ensures ∙ c.if-is_some.true)

pub returns-then-is_some-2 : goal.returns-then-is_some-2
returns-then-is_some-2 c =
    let x = c.args.a.now in
    let y = c.args.b.now in
    let z = c.args.c.now in
    let first = only_if (is_constant x) (raised_equations (low_of x) y z) in
    let second = only_if (is_constant y) (raised_equations (low_of y) x z) in
    let third = only_if (is_constant z) (mirrored_equations (low_of z) x y) in
    second-of-three c.args.sought first second third c.raised_where-first.result c.raised_where-first.ensures c.raised_where-second.result (sym c.is_some.ensures ∙ c.if-is_some.false) c.raised_where-second.ensures (sym c.is_some-2.ensures ∙ c.if-is_some-2.true)

pub returns : goal.returns
returns c =
    let x = c.args.a.now in
    let y = c.args.b.now in
    let z = c.args.c.now in
    let first = only_if (is_constant x) (raised_equations (low_of x) y z) in
    let second = only_if (is_constant y) (raised_equations (low_of y) x z) in
    let third = only_if (is_constant z) (mirrored_equations (low_of z) x y) in
    third-of-three c.args.sought first second third c.raised_where-first.result c.raised_where-first.ensures c.raised_where-second.result c.mirrored_where.result (sym c.is_some.ensures ∙ c.if-is_some.false) c.raised_where-second.ensures (sym c.is_some-2.ensures ∙ c.if-is_some-2.false) c.mirrored_where.ensures
