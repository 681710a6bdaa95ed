use Rattle.std.proofs.Common.{◌∙◌, sym, arith}
use Rattle.order_ints.proofs.TruthRows.{row-step, row-end}
use Rattle.order_ints.proofs.truth_values.TruthRowTruthValues.truth.Goals as goal

pub loop-place-preserved : goal.loop-place-preserved
loop-place-preserved c =
    let row = c.args.self.now in
    sym (row-step row.vars.now row.values.now c.args.var c.loop-place.place (omega arith) (omega arith) c.if-self-place.false) ∙ c.loop-place.invariant

pub returns : goal.returns
returns c =
    let row = c.args.self.now in
    sym (row-end row.vars.now row.values.now c.args.var c.loop-place.place (omega arith)) ∙ c.loop-place.invariant
