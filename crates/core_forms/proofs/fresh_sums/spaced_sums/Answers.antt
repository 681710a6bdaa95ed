use Rattle.std.proofs.Common.{arith}
use Rattle.std.proofs.lemmas.Int.{to_z-of_z}
use mir.Syntax.{w128}
use Rattle.core_forms.proofs.SumSteps.{spaced-more}
use Rattle.core_forms.proofs.fresh_sums.spaced_sums.Goals as goal

pub loop-preserved : goal.loop-preserved
loop-preserved c =
    let more = spaced-more c.args.low _ _ c.next-value.result c.args.gap c.args.gaps c.loop.counter c.loop.sums.items c.push-in-loop.new.self.items _
    (to_z-of_z w128 c.args.low c.ranges.low) c.requires.low c.requires.span c.loop-test.true c.loop.invariant.value c.next-value.ensures c.in_ok-push-2.ensures.items c.loop.invariant.sums in
    record { value = more.0; most = omega (arith, c.loop-test.true); sums = more.1 }
