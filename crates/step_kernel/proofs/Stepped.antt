-- What holds of the state after a step, by the three kinds of line.
use Rattle.std.proofs.Common.{◌≡◌, ℕ, ◌+◌, Bool, true, false, length, refl, subst, Option, Some, None, Result, Ok, Err}
use Rattle.std.specs.Prelude.{option_map, if◌then◌else◌}
use Rattle.core_forms.specs.declared.equation.Equation.{Equation}
use Rattle.core_forms.specs.declared.form.Core.{Core}
use Rattle.core_forms.specs.Trimmed.{trimmed_core}
use Rattle.core_forms.specs.Basic.{is_basic_of}
use Rattle.ledger_text.specs.declared.line.Line.{Line}
use Rattle.ledger_text.specs.declared.line.Line.TheVariants.{Equate, Split, Encode}
use Rattle.step_kernel.specs.declared.fault.StepFault.{StepFault}
use Rattle.step_kernel.specs.declared.fault.StepFault.TheVariants.{AfterBottom, NoSuch, NotInstance, NotCompound, NotBasic}
use Rattle.step_kernel.specs.Kernel.{Kernel, core_at, trimmed_at}
use Rattle.core_rules.specs.Instances.{is_instance_at}
use Rattle.core_parts.specs.Parts.{parts_at, is_compound_of}
use Rattle.step_kernel.specs.Steps.{id_of, fault_at, equated, divided, encoded, after, unless_fault, step_at, step}

pub ok_of : (x y : Kernel) → ◌≡◌ {A = Result Kernel StepFault} (Ok x) (Ok y) → x ≡ y
ok_of x y e = cc

pub err_ok : (x : StepFault) (y : Kernel) → ◌≡◌ {A = Result Kernel StepFault} (Err x) (Ok y) → ⊥
err_ok x y e = absurd (cc)

-- what is shown for each kind of step holds after every step
module _ (k : Kernel) (P : Kernel → Type 0)
    (equate : k.bottom ≡ false → (id : ℕ) (e : Equation) (core : Core) → core_at k.cores id ≡ Some core → is_instance_at (trimmed_core k.view core) e ≡ true → P (equated k e))
    (split : k.bottom ≡ false → (id : ℕ) (core : Core) → core_at k.cores id ≡ Some core → is_compound_of (trimmed_core k.view core) ≡ true → P (divided k id (parts_at (length k.view + 1) (trimmed_core k.view core))))
    (encode : k.bottom ≡ false → (id : ℕ) (core : Core) → core_at k.cores id ≡ Some core → is_basic_of (trimmed_core k.view core) ≡ true → P (encoded k id (trimmed_core k.view core)))
  where
    allowed : (t : Bool) (fault : StepFault) (next new : Kernel) → (t ≡ true → P next) → unless_fault (if t then None else Some fault) next ≡ Ok new → P new
    allowed true fault next new shown e = subst P (ok_of next new e) (shown refl)
    allowed false fault next new shown e = absurd (err_ok fault new e)

    at_core : k.bottom ≡ false → (line : Line) (core : Core) (new : Kernel) → core_at k.cores (id_of line) ≡ Some core →
        unless_fault (fault_at line (trimmed_core k.view core)) (after k line (trimmed_core k.view core)) ≡ Ok new → P new
    at_core running (Equate id e) core new at is =
        allowed (is_instance_at (trimmed_core k.view core) e) NotInstance (equated k e) new (equate running id e core at) is
    at_core running (Split id) core new at is =
        allowed (is_compound_of (trimmed_core k.view core)) NotCompound (divided k id (parts_at (length k.view + 1) (trimmed_core k.view core))) new (split running id core at) is
    at_core running (Encode id) core new at is =
        allowed (is_basic_of (trimmed_core k.view core)) NotBasic (encoded k id (trimmed_core k.view core)) new (encode running id core at) is

    at_place : k.bottom ≡ false → (line : Line) (new : Kernel) (o : Option Core) → core_at k.cores (id_of line) ≡ o → step_at k line (option_map (trimmed_core k.view) o) ≡ Ok new → P new
    at_place running line new None at is = absurd (err_ok (NoSuch (id_of line)) new is)
    at_place running line new (Some core) at is = at_core running line core new at is

    at_state : (b : Bool) (line : Line) (new : Kernel) → k.bottom ≡ b → (if b then Err AfterBottom else step_at k line (trimmed_at k (id_of line))) ≡ Ok new → P new
    at_state true line new bottom is = absurd (err_ok AfterBottom new is)
    at_state false line new bottom is = at_place bottom line new (core_at k.cores (id_of line)) refl is

    pub after_step : (line : Line) (new : Kernel) → step k line ≡ Ok new → P new
    after_step line new is = at_state k.bottom line new refl is
