use Rattle.std.proofs.Common.{◌-◌, ap, set, arith}
use Rattle.equation_store.specs.Class.{IsMember}
use Rattle.equation_store.specs.Ring.{behind, walk_of}
use Rattle.equation_store.proofs.Steps.{length-walk_of}
use Rattle.equation_store.proofs.Walking.{walking-all, member-here, walking-here, place-behind}
use Rattle.equation_store.proofs.classes.relabel.Goals as goal

pub overflow_sub-place : goal.overflow_sub-place
overflow_sub-place c =
    (member-here c.args.labels.now c.loop-k.labels c.args.var c.args.by (behind c.args.next.now) c.args.size c.loop-k.k c.loop-k.member c.requires.walk c.loop-k.invariant.0 c.loop-k.invariant.1 (omega arith)).0

pub slice_copy_out-replaced : goal.slice_copy_out-replaced
slice_copy_out-replaced c =
    let m : IsMember c.args.labels.now c.args.var c.loop-k.member = member-here c.args.labels.now c.loop-k.labels c.args.var c.args.by (behind c.args.next.now) c.args.size c.loop-k.k c.loop-k.member c.requires.walk c.loop-k.invariant.0 c.loop-k.invariant.1 (omega arith) in
    omega (arith, m.0, m.1, c.loop-k.invariant.0.size)

pub bounds-labels-place : goal.bounds-labels-place
bounds-labels-place c =
    let m : IsMember c.args.labels.now c.args.var c.loop-k.member = member-here c.args.labels.now c.loop-k.labels c.args.var c.args.by (behind c.args.next.now) c.args.size c.loop-k.k c.loop-k.member c.requires.walk c.loop-k.invariant.0 c.loop-k.invariant.1 (omega arith) in
    omega (arith, m.0, m.1, c.loop-k.invariant.0.size)

pub bounds-next-place : goal.bounds-next-place
bounds-next-place c =
    let m : IsMember c.args.labels.now c.args.var c.loop-k.member = member-here c.args.labels.now c.loop-k.labels c.args.var c.args.by (behind c.args.next.now) c.args.size c.loop-k.k c.loop-k.member c.requires.walk c.loop-k.invariant.0 c.loop-k.invariant.1 (omega arith) in
    omega (arith, m.0, m.1, c.requires.count)

pub loop-k-preserved : goal.loop-k-preserved
loop-k-preserved c = (
  walking-here c.args.labels.now c.loop-k.labels c.args.var c.args.by (behind c.args.next.now) c.args.size c.loop-k.k c.loop-k.member c.requires.walk c.loop-k.invariant.0 c.loop-k.invariant.1 (omega arith)
      (set c.loop-k.labels (c.loop-k.member - 1) c.replaced.result) _ (ap (set c.loop-k.labels (c.loop-k.member - 1)) c.replaced.ensures),
  place-behind c.args.labels.now c.loop-k.labels c.args.var c.args.by (behind c.args.next.now) c.args.size c.loop-k.k c.loop-k.member c.requires.walk c.loop-k.invariant.0 c.loop-k.invariant.1 (omega arith),
)

pub returns : goal.returns
returns c =
    walking-all c.args.labels.now c.loop-k.labels c.args.var c.args.by (walk_of (behind c.args.next.now) c.args.var c.args.size) c.loop-k.k c.requires.walk c.loop-k.invariant.0 (omega (arith, length-walk_of (behind c.args.next.now) c.args.var c.args.size))
