use Rattle.std.proofs.Common.{◌<◌, length, arith}
use Rattle.core_forms.proofs.AddedUp.{totals-next}
use Rattle.core_forms.proofs.summands.without_first.Goals as goal

pub loop-i-preserved : goal.loop-i-preserved
loop-i-preserved c =
    let is = c.in_ok-totals-2.ensures in
    let lt : c.loop-i.i < length c.args.ints.now = omega (arith, c.loop-i-test.true, c.min-gone.ensures) in
    totals-next c.args.ints.now c.loop-i.i c.index-ints-i.result c.loop-i.totals c.in_ok-totals-2.totals lt c.index-ints-i.is c.loop-i.invariant
    is.low is.width is.widest
