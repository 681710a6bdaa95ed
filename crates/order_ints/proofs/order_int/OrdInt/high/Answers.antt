-- A step's weight goes from those that are left to those so far.
use Rattle.std.proofs.Common.{ap, arith}
use Rattle.std.proofs.lemmas.Int.{ints}
use Rattle.std.proofs.lemmas.List.{at_drop_more}
use Rattle.order_ints.specs.declared.atom.Atom.TheVariants.{True}
use Rattle.order_ints.specs.OrderRange.{weights}
use Rattle.order_ints.proofs.order_int.OrdInt.high.Goals as goal

pub overflow_add-weights : goal.overflow_add-weights
overflow_add-weights c =
    let steps = c.as_slice-step-items.result.now in
    let step = at_drop_more weights steps c.loop-step.step-index (True, 0) c.loop-step-test.true in
    omega (arith, ints, step, c.loop-step.invariant, ap weights c.as_slice-step-items.ensures, c.requires)

pub loop-step-preserved : goal.loop-step-preserved
loop-step-preserved c =
    let steps = c.as_slice-step-items.result.now in
    let step = at_drop_more weights steps c.loop-step.step-index (True, 0) c.loop-step-test.true in
    omega (arith, step, c.loop-step.invariant)
