use Rattle.std.proofs.Common.{arith}
use Rattle.fixpoint_queue.proofs.MarkLaws.{false-bound, false-next, false-here}
use Rattle.fixpoint_queue.proofs.marks.advanced.Goals as goal

pub loop-first-preserved : goal.loop-first-preserved
loop-first-preserved c = false-next c.args.marks.now c.loop-first.first _ c.loop-first-test.true c.if-not-marks-first.true c.loop-first.invariant

pub returns-else-not-marks-first : goal.returns-else-not-marks-first
returns-else-not-marks-first c = false-here c.args.marks.now c.loop-first.first _ c.loop-first-test.true c.if-not-marks-first.false c.loop-first.invariant

pub returns-after-loop-first : goal.returns-after-loop-first
returns-after-loop-first c = omega (arith, false-bound c.args.marks.now, c.loop-first.invariant, c.loop-first-test.false)
