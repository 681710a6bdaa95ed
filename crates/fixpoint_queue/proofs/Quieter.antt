-- A core at which nothing is told stays so where an equation changes the labels of none of its variables.
use Rattle.std.proofs.Common.{◌≡◌, ℕ, ◌+◌, ◌≤◌, ◌<◌, Bool, true, false, length, refl, sym, ap, ◌∙◌, arith, Option, Some, None}
use Rattle.std.specs.Prelude.{option_map, IsSomeAnd, if◌then◌else◌}
use Rattle.std.proofs.lemmas.Bool.{false≢true}
use Rattle.order_ints.specs.Truth.{not_atom}
use Rattle.order_ints.specs.View.{label_of}
use Rattle.order_ints.specs.Label.{IsLabel}
use Rattle.order_ints.specs.Same.{same_atom}
use Rattle.order_ints.specs.Equality.{same_atom-true, same_atom-refl}
use Rattle.order_ints.proofs.Labels.{AtomBelow-label}
use Rattle.core_forms.specs.declared.equation.Equation.{Equation}
use Rattle.core_forms.specs.declared.form.Core.{Core}
use Rattle.core_forms.specs.Variables.{core_vars, HaveSameLabels}
use Rattle.core_forms.specs.Trimmed.{trimmed_core}
use Rattle.core_forms.proofs.ViewLaws.{trimmed_by_labels}
use Rattle.core_forms.proofs.VariableLaws.{vars_below}
use Rattle.equation_store.specs.Class.{IsMember}
use Rattle.equation_store.specs.Merge.{loser_of, merged}
use Rattle.equation_store.proofs.Changes.{merge_changes}
use Rattle.step_kernel.specs.Kernel.{Kernel, core_at, trimmed_at, IsKernel}
use Rattle.step_kernel.specs.Steps.{equated}
use Rattle.step_kernel.proofs.Holes.{below-there}
use Rattle.fixpoint_queue.specs.Quiet.{IsQuiet}
use Rattle.fixpoint_queue.specs.Listed.{HasVar}

module _ (told : Core → Equation → Type 0) (k : Kernel) (is : IsKernel k) (e : Equation) (la : IsLabel k.view e.a) (lb : IsLabel k.view e.b)
    (id : ℕ) (apart : (x v : ℕ) → loser_of k.view e.a e.b ≡ Some x → IsMember k.view x v → HasVar k id v → ⊥)
  where
    -- no variable of the core has a new label
    same-labels : (core : Core) → core_at k.cores id ≡ Some core → HaveSameLabels (core_vars core) k.view (merged k.view e.a e.b)
    same-labels core at v there = by (same_atom (label_of k.view v) (label_of (merged k.view e.a e.b) v)) refl
      where
        bounds : (1 ≤ v) × (v < length k.view + 1)
        bounds = vars_below (length k.view + 1) core (below-there k.cores id core at (length k.view + 1) is.below).0 v there

        unlike : (o : Option ℕ) → loser_of k.view e.a e.b ≡ o → IsSomeAnd o (λ x. IsMember k.view x v) → ⊥
        unlike None loser member = absurd member
        unlike (Some x) loser member = apart x v loser member (core, at, there)

        by : (t : Bool) → same_atom (label_of k.view v) (label_of (merged k.view e.a e.b) v) ≡ t → label_of k.view v ≡ label_of (merged k.view e.a e.b) v
        by true h = same_atom-true (label_of k.view v) (label_of (merged k.view e.a e.b) v) h
        by false h =
            let differs : label_of (merged k.view e.a e.b) v ≡ label_of k.view v → ⊥ =
            λ q. absurd (false≢true (sym h ∙ ap (same_atom (label_of k.view v)) q ∙ same_atom-refl (label_of k.view v))) in
            let changed = merge_changes k.view e.a e.b v is.labelled (AtomBelow-label k.view e.a la) (AtomBelow-label k.view e.b lb) bounds.0 (omega (arith, bounds.1)) in
            absurd (unlike (loser_of k.view e.a e.b) refl (changed.0 differs))

    same-trimmed : (o : Option Core) → core_at k.cores id ≡ o → option_map (trimmed_core (merged k.view e.a e.b)) o ≡ option_map (trimmed_core k.view) o
    same-trimmed None at = refl
    same-trimmed (Some core) at = ap Some (sym (trimmed_by_labels k.view (merged k.view e.a e.b) core (same-labels core at)))

    -- it is trimmed as before
    pub trimmed-kept : trimmed_at (equated k e) id ≡ trimmed_at k id
    trimmed-kept = by (same_atom e.a (not_atom e.b))
      where
        by : (b : Bool) → trimmed_at (if b then record k { bottom = true } else record k { view = merged k.view e.a e.b }) id ≡ trimmed_at k id
        by true = refl
        by false = same-trimmed (core_at k.cores id) refl

    pub quiet-kept : IsQuiet told k id → IsQuiet told (equated k e) id
    quiet-kept quiet core at f tells = quiet core (sym trimmed-kept ∙ at) f tells
