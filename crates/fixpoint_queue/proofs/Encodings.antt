-- The state after an encoding.
use Rattle.std.proofs.Common.{◌≡◌, ℕ, ◌-◌, ◌≤◌, arith, List, set, length, Bool, true, false, refl, sym, ap, ◌∙◌, Some, None, Result, Ok, Err}
use Rattle.std.specs.Prelude.{if◌then◌else◌}
use Rattle.std.proofs.lemmas.List.{length-set}
use Rattle.core_forms.specs.declared.equation.Equation.{Equation}
use Rattle.core_forms.specs.declared.form.Core.{Core}
use Rattle.core_forms.specs.Basic.{is_basic_of}
use Rattle.ledger_text.specs.declared.line.Line.TheVariants.{Encode}
use Rattle.core_occurrences.specs.Lists.{OccurrenceLists, IsOccurrences, removed}
use Rattle.index_ring.specs.Lists.{without}
use Rattle.step_kernel.specs.declared.fault.StepFault.{StepFault}
use Rattle.step_kernel.specs.declared.fault.StepFault.TheVariants.{AfterBottom, NotBasic}
use Rattle.step_kernel.specs.Kernel.{Kernel, trimmed_at, IsKernel}
use Rattle.step_kernel.specs.Steps.{step, step_at, unless_fault, encoded}
use Rattle.step_kernel.proofs.Splits.{at-bounds}
use Rattle.fixpoint_queue.specs.IdQueue.{Ids, IsIds}
use Rattle.fixpoint_queue.specs.Waits.{IsSaturation}
use Rattle.fixpoint_queue.proofs.NextSaturation.{saturation-next, goes-encoded, listed-encoded, queues-gone, marked-gone}

ok-of : (x y : Kernel) → ◌≡◌ {A = Result Kernel StepFault} (Ok x) (Ok y) → x ≡ y
ok-of x y h = cc

pub encoded-is : (k new : Kernel) (id : ℕ) (core : Core) → k.bottom ≡ false → trimmed_at k id ≡ Some core → is_basic_of core ≡ true → step k (Encode id) ≡ Ok new → new ≡ encoded k id core
encoded-is k new id core running there basic is =
    ok-of new (encoded k id core)
    (sym is
    ∙ ap (λ (b : Bool). if b then Err AfterBottom else step_at k (Encode id) (trimmed_at k id)) running
    ∙ ap (step_at k (Encode id)) there
    ∙ ap (λ (b : Bool). unless_fault (if b then None else Some NotBasic) (encoded k id core)) basic)

module _ (told : Core → Equation → Type 0) (k new : Kernel) (id : ℕ) (occurs next : OccurrenceLists) (old queue : Ids) (was marks : List Bool) (saturation : IsSaturation told k occurs old was)
    (core : Core) (there : trimmed_at k id ≡ Some core) (is : new ≡ encoded k id core) (kernel : IsKernel new) (occurs-is : next ≡ removed occurs id) (occurrences : IsOccurrences next)
    (queued : queue.queued ≡ without id old.queued) (places : queue.places ≡ old.places) (ids : IsIds queue) (marks-are : marks ≡ set was (id - 1) false)
  where
    low : 1 ≤ id
    low = (at-bounds k id core there).0

    same : length k.cores ≡ length new.cores
    same = sym (ap (λ (kk : Kernel). length kk.cores) is ∙ length-set k.cores (id - 1) None)

    pub saturation-encoded : IsSaturation told new next queue marks
    saturation-encoded =
        saturation-next told k new id occurs next old queue was marks saturation
        (goes-encoded k new id low kernel (ap (λ (kk : Kernel). kk.view) is) (ap (λ (kk : Kernel). kk.cores) is))
        (listed-encoded k new id occurs next low (ap (λ (kk : Kernel). kk.view) is) (ap (λ (kk : Kernel). kk.cores) is) occurs-is occurrences saturation.listed)
        (queues-gone k new id old queue queued places ids same (omega (arith, same, saturation.places)))
        (marked-gone k new id was was marks low (λ j. refl) marks-are (omega (arith, same, saturation.mark_places)))
