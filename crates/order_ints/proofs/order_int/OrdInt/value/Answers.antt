use Rattle.std.proofs.Common.{arith, ap}
use Rattle.std.proofs.lemmas.Int.{ints}
use Rattle.order_ints.specs.OrderRange.{weights}
use Rattle.order_ints.proofs.Gains.{gains-drop, gains-le}
use Rattle.order_ints.proofs.order_int.OrdInt.value.Goals as goal

pub overflow_add-gained : goal.overflow_add-gained
overflow_add-gained g c =
    let σ = g.T.TruthValues.valuation c.args.sigma in
    let steps = c.as_slice-step-items.result.now in
    let step = gains-drop σ steps c.loop-step.step-index _ c.loop-step-test.true c.if-holds.ensures in
    let weighs = gains-le σ steps in
    omega (arith, ints, ap weights c.as_slice-step-items.ensures)
