use Rattle.std.proofs.Common.{arith}
use Rattle.std.proofs.lemmas.Grind.{common_steps}
use Rattle.core_forms.proofs.CostLaws.{PairsFit-append}
use Rattle.core_forms.proofs.shapes.step_pairs.Goals as goal

pub loop-i-preserved : goal.loop-i-preserved
loop-i-preserved c =
    (rw c.in_ok-push.ensures.items (PairsFit-append c.loop-i.pairs.items (c.steps.result, c.steps-in-loop-i.result) c.loop-i.invariant.0 c.steps.ensures.fits c.steps-in-loop-i.ensures.fits), grind (arith, common_steps))
