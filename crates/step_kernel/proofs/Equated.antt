-- What an equation makes of a state.
use Rattle.std.proofs.Common.{◌≡◌, ℕ, ◌+◌, ◌≤◌, Bool, true, false, length, refl, sym, ap, ◌∙◌, subst, arith, Some}
use Rattle.std.specs.Prelude.{if◌then◌else◌}
use Rattle.std.proofs.lemmas.Bool.{false≢true}
use Rattle.order_ints.specs.Truth.{Valuation, atom_truth, not_atom}
use Rattle.order_ints.specs.View.{resolve}
use Rattle.order_ints.specs.Label.{IsLabel, IsLater}
use Rattle.order_ints.specs.Same.{same_atom}
use Rattle.order_ints.specs.Equality.{same_atom-true, same_atom-refl}
use Rattle.order_ints.specs.Place.{AtomClausesBelow}
use Rattle.order_ints.proofs.Labels.{resolve-label, AtomBelow-label, IsLater-itself}
use Rattle.order_ints.proofs.Truths.{atom_truth-not_atom}
use Rattle.core_forms.specs.declared.equation.Equation.{Equation}
use Rattle.core_forms.specs.declared.form.Core.{Core}
use Rattle.core_forms.specs.Meaning.{core_truth, Meets}
use Rattle.core_forms.specs.Place.{CoreBelow}
use Rattle.core_forms.specs.Trimmed.{trimmed_core}
use Rattle.core_forms.specs.Cores.{CoresBelow}
use Rattle.core_forms.proofs.Kept.{IsWellFormed-trimmed}
use Rattle.core_forms.proofs.TidiedCores.{core_truth-trimmed}
use Rattle.equation_store.specs.Merge.{merged}
use Rattle.equation_store.proofs.Facts.{IsMerge, is_merge}
use Rattle.equation_store.proofs.Changes.{merge_is_later}
use Rattle.equation_store.proofs.Negation.{not-other}
use Rattle.step_kernel.specs.Kernel.{Kernel, core_at, pending, potential, IsKernel}
use Rattle.step_kernel.specs.Models.{IsModel, Keeps}
use Rattle.core_rules.specs.Instances.{is_instance_at}
use Rattle.step_kernel.specs.Steps.{equated}
use Rattle.step_kernel.proofs.Kept.{Kept}
use Rattle.step_kernel.proofs.Holes.{below-there, formed-there, met-there}
use Rattle.step_kernel.proofs.Costs.{trimmed_costs-later}
use Rattle.core_rules.proofs.InstanceLaws.{instance-implied, instance-labels, instance-different}

module _ (k : Kernel) (is : IsKernel k) (id : ℕ) (e : Equation) (core : Core) (at : core_at k.cores id ≡ Some core) (instance : is_instance_at (trimmed_core k.view core) e ≡ true) where
  core-below : CoreBelow (length k.view + 1) core
  core-below = (below-there k.cores id core at (length k.view + 1) is.below).0

  labels : IsLabel k.view e.a × IsLabel k.view e.b
  labels = instance-labels k.view core e is.labelled core-below instance

  merge : IsMerge k.view (merged k.view e.a e.b) e.a e.b
  merge = is_merge k.view e.a e.b is.labelled (AtomBelow-label k.view e.a labels.0) (AtomBelow-label k.view e.b labels.1)

  later : IsLater k.view (merged k.view e.a e.b)
  later = merge_is_later k.view e.a e.b is.labelled (AtomBelow-label k.view e.a labels.0) (AtomBelow-label k.view e.b labels.1)

  joined-potential : potential (record k { view = merged k.view e.a e.b }) ≤ potential k
  joined-potential =
      omega (
        arith,
        merge.size,
        trimmed_costs-later (length k.view + 1) k.view (merged k.view e.a e.b) (pending k.cores) later is.below is.formed,
      )

  joined-kernel : IsKernel (record k { view = merged k.view e.a e.b })
  joined-kernel =
      let n : length k.view + 1 ≡ length (merged k.view e.a e.b) + 1 = ap (λ (m : ℕ). m + 1) (sym merge.size) in
      record {
        labelled = merge.labelled;
        formed = is.formed;
        below = subst (λ (m : ℕ). CoresBelow m (pending k.cores)) n is.below;
        clauses = subst (λ (m : ℕ). AtomClausesBelow m k.clauses) n is.clauses;
        small = omega (arith, joined-potential, is.small);
      }

  bottom-kernel : IsKernel (record k { bottom = true })
  bottom-kernel = record { labelled = is.labelled; formed = is.formed; below = is.below; clauses = is.clauses; small = is.small }

  pub equated-kernel : IsKernel (equated k e)
  equated-kernel = by (same_atom e.a (not_atom e.b))
    where
      by : (b : Bool) → IsKernel (if b then record k { bottom = true } else record k { view = merged k.view e.a e.b })
      by true = bottom-kernel
      by false = joined-kernel

  -- a model makes the two atoms equally true
  equal : (σ : Valuation) → IsModel k σ → atom_truth σ e.a ≡ atom_truth σ e.b
  equal σ m =
      let met : Meets σ core = ((met-there k.cores id core at σ).0 m.cores).0 in
      let same : core_truth σ (trimmed_core k.view core) ≡ core_truth σ core = core_truth-trimmed σ k.view (length k.view + 1) core core-below m.view in
      instance-implied (trimmed_core k.view core) e (IsWellFormed-trimmed k.view core (formed-there k.cores id core at is.formed).0) instance σ (same ∙ met)

  opposite-keeps : same_atom e.a (not_atom e.b) ≡ true → Keeps k (record k { bottom = true })
  opposite-keeps h = record {
    back = λ σ m. absurd (false≢true (sym m.running));
    forth = λ σ m.
        let q : e.a ≡ not_atom e.b = same_atom-true e.a (not_atom e.b) h in
        absurd (not-other (atom_truth σ e.b) (sym (equal σ m) ∙ ap (atom_truth σ) q ∙ atom_truth-not_atom σ e.b));
  }

  joined-keeps : k.bottom ≡ false → same_atom e.a (not_atom e.b) ≡ false → Keeps k (record k { view = merged k.view e.a e.b })
  joined-keeps running h =
      let ra : resolve k.view e.a ≡ e.a = resolve-label k.view e.a labels.0 in
      let rb : resolve k.view e.b ≡ e.b = resolve-label k.view e.b labels.1 in
      let apart : resolve k.view e.a ≡ resolve k.view e.b → ⊥ = λ q. instance-different (trimmed_core k.view core) e instance (sym ra ∙ q ∙ rb) in
      let unlike : resolve k.view e.a ≡ not_atom (resolve k.view e.b) → ⊥ =
      λ q. absurd (false≢true (sym h ∙ ap (same_atom e.a) (sym (sym ra ∙ q ∙ ap not_atom rb)) ∙ same_atom-refl e.a)) in
      let adds = (merge.changes apart unlike).equation in
      record {
        back = λ σ m. record { running = m.running; view = ((adds σ).0 m.view).0; cores = m.cores; clauses = m.clauses };
        forth = λ σ m. (σ, (λ v low. refl), record { running = m.running; view = (adds σ).1 (m.view, equal σ m); cores = m.cores; clauses = m.clauses });
      }

  pub equated-kept : k.bottom ≡ false → Kept k (equated k e)
  equated-kept running = by (same_atom e.a (not_atom e.b)) refl
    where
      by : (b : Bool) → same_atom e.a (not_atom e.b) ≡ b → Kept k (if b then record k { bottom = true } else record k { view = merged k.view e.a e.b })
      by true h = record { kernel = bottom-kernel; keeps = opposite-keeps h; longer = omega arith; later = IsLater-itself k.view is.labelled; potential = omega arith }
      by false h = record { kernel = joined-kernel; keeps = joined-keeps running h; longer = omega (arith, merge.size); later = later; potential = joined-potential }
