-- What each step, and each replay of a ledger, keeps.
use Rattle.std.proofs.Common.{◌≡◌, ℕ, ◌+◌, true, length, refl, sym, ◌∙◌, subst, arith, List, [], ◌∷◌, Some, Result, Ok, Err}
use Rattle.core_forms.specs.declared.form.Core.{Core}
use Rattle.core_forms.specs.Trimmed.{trimmed_core}
use Rattle.core_forms.proofs.Kept.{IsWellFormed-trimmed}
use Rattle.core_forms.proofs.Places.{CoreBelow-trimmed}
use Rattle.order_ints.proofs.Labels.{labels_below}
use Rattle.part_base.specs.PartsFor.{ArePartsFor}
use Rattle.ledger_text.specs.declared.line.Line.{Line}
use Rattle.step_kernel.specs.declared.fault.StepFault.{StepFault}
use Rattle.step_kernel.specs.Kernel.{Kernel, core_at, IsKernel}
use Rattle.core_parts.specs.Parts.{parts_at, is_compound_of}
use Rattle.step_kernel.specs.Steps.{step, replayed, replay}
use Rattle.step_kernel.proofs.Holes.{below-there, formed-there, costs-there}
use Rattle.core_parts.proofs.PartLaws.{parts-of_compound}
use Rattle.step_kernel.proofs.Kept.{Kept, Kept-itself, Kept-trans}
use Rattle.step_kernel.proofs.Stepped.{ok_of, err_ok, after_step}
use Rattle.step_kernel.proofs.Equated.{equated-kept}
use Rattle.step_kernel.proofs.Divided.{divided-kept}
use Rattle.step_kernel.proofs.Encoded.{encoded-kept}

-- the parts of a pending core that is compound as the store has it
pub parts-there : (k : Kernel) → IsKernel k → (id : ℕ) (core : Core) → core_at k.cores id ≡ Some core → is_compound_of (trimmed_core k.view core) ≡ true →
    ArePartsFor (trimmed_core k.view core) (length k.view + 1) (parts_at (length k.view + 1) (trimmed_core k.view core))
parts-there k is id core at compound =
    let below = (below-there k.cores id core at (length k.view + 1) is.below).0 in
    let formed = (formed-there k.cores id core at is.formed).0 in
    let costs = costs-there k.cores id core at k.view in
    parts-of_compound (trimmed_core k.view core) (length k.view + 1) compound (omega arith)
    (IsWellFormed-trimmed k.view core formed)
    (CoreBelow-trimmed (length k.view + 1) k.view core below (labels_below k.view is.labelled))
    (omega (arith, costs, is.small))

pub step-kept : (k new : Kernel) (line : Line) → IsKernel k → step k line ≡ Ok new → Kept k new
step-kept k new line is =
    after_step k (Kept k)
    (λ running id e core at instance. equated-kept k is id e core at instance running)
    (λ running id core at compound. divided-kept k is id core at (parts_at (length k.view + 1) (trimmed_core k.view core)) (parts-there k is id core at compound))
    (λ running id core at basic. encoded-kept k is id core at basic)
    line new

replayed-err : (fault : StepFault) (lines : List Line) → replayed (Err fault) lines ≡ Err fault
replayed-err fault [] = refl
replayed-err fault (line ∷ lines) = refl

pub replay-kept : (k new : Kernel) (lines : List Line) → IsKernel k → replay k lines ≡ Ok new → Kept k new
replay-kept k new [] is e = subst (Kept k) (ok_of k new e) (Kept-itself k is)
replay-kept k new (line ∷ lines) is e = by (step k line) refl e (λ mid. replay-kept mid new lines)
  where
    by : (r : Result Kernel StepFault) → step k line ≡ r → replayed r lines ≡ Ok new
        → ((mid : Kernel) → IsKernel mid → replay mid lines ≡ Ok new → Kept mid new) → Kept k new
    by (Err fault) stepped e rest = absurd (err_ok fault new (sym (replayed-err fault lines) ∙ e))
    by (Ok mid) stepped e rest =
        let first : Kept k mid = step-kept k mid line is stepped in
        Kept-trans k mid new is first (rest mid first.kernel e)
