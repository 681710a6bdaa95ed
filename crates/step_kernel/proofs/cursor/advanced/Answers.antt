use Rattle.std.proofs.Common.{not, ap, ◌∙◌, arith}
use Rattle.step_kernel.proofs.Cursors.{gone-next, gone-here, gone-bound}
use Rattle.step_kernel.proofs.cursor.advanced.Goals as goal

pub loop-first-preserved : goal.loop-first-preserved
loop-first-preserved c =
    gone-next c.args.cores.now c.loop-first.first c.index-cores-first.result c.loop-first-test.true c.index-cores-first.is
    (c.is_none.ensures ∙ ap not c.if-is_none.true) c.loop-first.invariant

pub returns-else-is_none : goal.returns-else-is_none
returns-else-is_none c =
    gone-here c.args.cores.now c.loop-first.first c.index-cores-first.result c.loop-first-test.true c.index-cores-first.is
    (c.is_none.ensures ∙ ap not c.if-is_none.false) c.loop-first.invariant

pub returns-after-loop-first : goal.returns-after-loop-first
returns-after-loop-first c = omega (arith, gone-bound c.args.cores.now, c.loop-first.invariant, c.loop-first-test.false)
