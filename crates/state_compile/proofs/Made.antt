-- The state that a step makes.
use Rattle.std.proofs.Common.{◌≡◌, Bool, true, false, refl, sym, ap, ◌∙◌, Option, Some, None, Ok, Err}
use Rattle.std.specs.Prelude.{if◌then◌else◌}
use Rattle.core_forms.specs.declared.form.Core.{Core}
use Rattle.ledger_text.specs.declared.line.Line.{Line}
use Rattle.step_kernel.specs.declared.fault.StepFault.{StepFault}
use Rattle.step_kernel.specs.declared.fault.StepFault.TheVariants.{AfterBottom}
use Rattle.step_kernel.specs.Kernel.{Kernel, trimmed_at}
use Rattle.step_kernel.specs.Steps.{id_of, fault_at, after, unless_fault, step_at, step}
use Rattle.step_kernel.proofs.Stepped.{ok_of, err_ok}

-- it is what the line makes of its core, as the store has it
pub made-by : (k new : Kernel) (line : Line) (core : Core) → trimmed_at k (id_of line) ≡ Some core → step k line ≡ Ok new → new ≡ after k line core
made-by k new line core there made = at_state k.bottom made
  where
    at_core : (o : Option StepFault) → unless_fault o (after k line core) ≡ Ok new → new ≡ after k line core
    at_core None e = sym (ok_of (after k line core) new e)
    at_core (Some fault) e = absurd (err_ok fault new e)

    at_state : (b : Bool) → (if b then Err AfterBottom else step_at k line (trimmed_at k (id_of line))) ≡ Ok new → new ≡ after k line core
    at_state true e = absurd (err_ok AfterBottom new e)
    at_state false e = at_core (fault_at line core) (sym (ap (step_at k line) there) ∙ e)

-- no step is made at bottom
pub runs-on : (k new : Kernel) (line : Line) → step k line ≡ Ok new → k.bottom ≡ false
runs-on k new line made = by k.bottom refl made
  where
    by : (b : Bool) → k.bottom ≡ b → (if b then Err AfterBottom else step_at k line (trimmed_at k (id_of line))) ≡ Ok new → k.bottom ≡ false
    by true bottom e = absurd (err_ok AfterBottom new e)
    by false bottom e = bottom
