use Rattle.std.proofs.Common.{◌≡◌, ◌+◌, ◌-◌, drop, ap, arith}
use Rattle.std.proofs.lemmas.List.{at_drop_more}
use Rattle.order_ints.specs.declared.atom.Atom.TheVariants.{True}
use Rattle.order_ints.specs.OrderRange.{weights}
use Rattle.core_forms.proofs.ShapeLaws.{span-bounded}
use Rattle.core_forms.proofs.SumSteps.{weights-drop}
use Rattle.core_forms.proofs.shapes.shape.Goals as goal

pub overflow_add-span : goal.overflow_add-span
overflow_add-span c =
    let next = at_drop_more weights c.as_slice-steps.result.now (c.loop-i.i - 1) (True, 0) (omega (arith, c.loop-i-test.true, c.loop-i.auto.i)) in
    let here : c.loop-i.i - 1 + 1 ≡ c.loop-i.i = omega (arith, c.loop-i-test.true) in
    let rest = ap (λ k. weights (drop k c.as_slice-steps.result.now)) here in
    let least = weights-drop c.as_slice-steps.result.now (c.loop-i.i - 1) in
    let all = ap weights c.as_slice-steps.ensures in
    omega (arith, next, rest, least, all, span-bounded c.args.a.now c.requires, c.loop-i.invariant.0)
