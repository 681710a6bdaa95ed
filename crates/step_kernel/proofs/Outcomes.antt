-- What a call that makes a step leaves.
use Rattle.std.proofs.Common.{◌≡◌, subst, sym, Result, Ok, Err}
use Rattle.std.specs.Prelude.{OnOk, OnErr}
use Rattle.ledger_text.specs.declared.line.Line.{Line}
use Rattle.step_kernel.specs.Kernel.{Kernel, IsKernel}
use Rattle.step_kernel.specs.Models.{Keeps}
use Rattle.step_kernel.specs.Steps.{step}
use Rattle.step_kernel.proofs.StepLaws.{step-kept}

module _ {T E : Type 0} (old new : Kernel) (line : Line) (is : IsKernel old) where
  pub models-after : (r : Result T E) → OnOk r (step old line ≡ Ok new) → OnOk r (Keeps old new)
  models-after (Ok t) h = (step-kept old new line is h).keeps
  models-after (Err e) h = tt

  pub kernel-after : (r : Result T E) → OnOk r (step old line ≡ Ok new) → OnErr r (new ≡ old) → IsKernel new
  kernel-after (Ok t) h stays = (step-kept old new line is h).kernel
  kernel-after (Err e) h stays = subst IsKernel (sym stays) is
