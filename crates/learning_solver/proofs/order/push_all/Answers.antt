use Rattle.std.proofs.Common.{subst, sym, arith, ◌+◌}
use Rattle.index_ring.specs.Lists.{RingLists, IsRings}
use Rattle.learning_solver.proofs.RingLaws.{IsFilled, filled-next}
use Rattle.learning_solver.proofs.order.push_all.Goals as goal

pub loop-v-preserved : goal.loop-v-preserved
loop-v-preserved c =
    let v = c.loop-v.v in
    let is = c.push_front.ensures.lists in
    let P : RingLists → Type 0 = IsFilled c.args.vars (v + 1) in
    subst P (sym is) (filled-next c.args.vars v c.loop-v.ring c.loop-v.invariant (omega arith) (subst IsRings is c.push_front.ensures.rings))
