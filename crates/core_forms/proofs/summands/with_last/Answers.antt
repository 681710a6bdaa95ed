use Rattle.core_forms.proofs.AddedUp.{totals-behind}
use Rattle.core_forms.proofs.summands.with_last.Goals as goal

pub returns : goal.returns
returns c =
    let is = c.in_ok-before.ensures in
    totals-behind c.with-2.result c.args.ints.now c.in-Some.last.now c.args.a.now c.args.totals.now c.in_ok-before.before c.requires c.in-Some.ensures
    is.low is.width is.others is.this c.with-2.ensures.low c.with-2.ensures.width c.with-2.ensures.widest
