use Rattle.std.proofs.Common.{arith}
use Rattle.std.proofs.lemmas.Grind.{common_steps}
use Rattle.core_forms.proofs.CostLaws.{AllFit-append}
use Rattle.core_forms.proofs.shapes.step_numbers.Goals as goal

pub loop-a-preserved : goal.loop-a-preserved
loop-a-preserved c =
    (rw c.in_ok-push.ensures.items (AllFit-append c.loop-a.numbers.items c.steps.result c.loop-a.invariant.0 c.steps.ensures.fits), grind (arith, common_steps))
