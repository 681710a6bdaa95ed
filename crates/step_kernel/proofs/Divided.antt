-- What the splitting of a core makes of a state.
use Rattle.std.proofs.Common.{◌≡◌, ℕ, ◌+◌, ◌≤◌, List, ◌++◌, map, length, sym, ap, ◌∙◌, subst, arith, length-append, Some}
use Rattle.order_ints.specs.declared.atom.Atom.{Atom}
use Rattle.order_ints.specs.Truth.{Valuation, Agree}
use Rattle.order_ints.specs.View.{label_of, MeetsView}
use Rattle.order_ints.specs.Label.{IsLabelled, own_labels, with_own_labels}
use Rattle.order_ints.specs.Place.{AtomClausesBelow}
use Rattle.order_ints.proofs.Labels.{AtomBelow-label, MeetsView-more, IsLabelled-more, length-own_labels, IsLater-more}
use Rattle.order_ints.proofs.PlaceLaws.{AtomClausesBelow-up}
use Rattle.order_ints.proofs.TruthLaws.{atom_agrees, atom_clauses_agree}
use Rattle.core_forms.specs.declared.form.Core.{Core}
use Rattle.core_forms.specs.Meaning.{core_truth, Meets}
use Rattle.core_forms.specs.Place.{CoreBelow}
use Rattle.core_forms.specs.WellFormed.{IsWellFormed}
use Rattle.core_forms.specs.Trimmed.{trimmed_core}
use Rattle.core_forms.specs.Cores.{MeetsAll, CoresBelow, AreWellFormed}
use Rattle.core_forms.proofs.TidiedCores.{core_truth-trimmed}
use Rattle.core_forms.proofs.CoreLists.{MeetsAll-append, MeetsAll-agree, CoresBelow-append, CoresBelow-more, AreWellFormed-append}
use Rattle.part_base.specs.declared.parts.Parts.{Parts}
use Rattle.part_base.specs.PartsFor.{ArePartsFor}
use Rattle.step_kernel.specs.Kernel.{Kernel, core_at, pending, trimmed_costs, potential, IsKernel}
use Rattle.step_kernel.specs.Models.{IsModel}
use Rattle.step_kernel.specs.Steps.{without, divided}
use Rattle.step_kernel.proofs.Kept.{Kept}
use Rattle.step_kernel.proofs.Holes.{pending-append, pending-parts, below-there, formed-there, met-there, costs-there}
use Rattle.step_kernel.proofs.Costs.{trimmed_costs-append, trimmed_costs-bound, trimmed_costs-more}

-- a store is met by a valuation that is as another one on its variables
pub MeetsView-agree : (view : List Atom) (σ τ : Valuation) → IsLabelled view → Agree (length view + 1) σ τ → MeetsView σ view → MeetsView τ view
MeetsView-agree view σ τ labelled agree meets v low high =
    sym (agree v (omega arith)) ∙ meets v low high
    ∙ atom_agrees (length view + 1) σ τ agree (label_of view v) (AtomBelow-label view (label_of view v) (labelled v low high))

module _ (k : Kernel) (is : IsKernel k) (id : ℕ) (core : Core) (at : core_at k.cores id ≡ Some core)
    (parts : Parts) (for : ArePartsFor (trimmed_core k.view core) (length k.view + 1) parts) where
  abbrev left : List Core
  left = pending (without k.cores id)

  pending-divided : pending (without k.cores id ++ map Some parts.cores) ≡ left ++ parts.cores
  pending-divided = pending-append (without k.cores id) (map Some parts.cores) ∙ ap (λ (cs : List Core). left ++ cs) (pending-parts parts.cores)

  length-divided : length (with_own_labels k.view parts.fresh) ≡ length k.view + parts.fresh
  length-divided = omega (arith, length-append k.view (own_labels (length k.view + 1) parts.fresh), length-own_labels (length k.view + 1) parts.fresh)

  bound : length (with_own_labels k.view parts.fresh) + 1 ≡ length k.view + 1 + parts.fresh
  bound = omega (arith, length-divided)

  left-below : CoreBelow (length k.view + 1) core × CoresBelow (length k.view + 1) left
  left-below = below-there k.cores id core at (length k.view + 1) is.below

  left-formed : IsWellFormed core × AreWellFormed left
  left-formed = formed-there k.cores id core at is.formed

  all-below : CoresBelow (length k.view + 1 + parts.fresh) (left ++ parts.cores)
  all-below =
      CoresBelow-append (length k.view + 1 + parts.fresh) left parts.cores
      (CoresBelow-more (length k.view + 1) (length k.view + 1 + parts.fresh) left (omega arith) left-below.1)
      for.fit.below

  costs-divided : length (with_own_labels k.view parts.fresh) + trimmed_costs (with_own_labels k.view parts.fresh) (left ++ parts.cores) ≤ length k.view + trimmed_costs k.view (pending k.cores)
  costs-divided =
      omega (
        arith,
        length-divided,
        trimmed_costs-append (with_own_labels k.view parts.fresh) left parts.cores,
        trimmed_costs-more (length k.view + 1) k.view parts.fresh left left-below.1,
        trimmed_costs-bound (with_own_labels k.view parts.fresh) parts.cores for.fit.formed,
        costs-there k.cores id core at k.view,
        for.cost,
      )

  divided-potential : potential (divided k id parts) ≤ potential k
  divided-potential = omega (arith, costs-divided, ap (trimmed_costs (with_own_labels k.view parts.fresh)) pending-divided)

  pub divided-kernel : IsKernel (divided k id parts)
  divided-kernel = record {
    labelled = IsLabelled-more k.view parts.fresh is.labelled;
    formed = subst AreWellFormed (sym pending-divided) (AreWellFormed-append left parts.cores left-formed.1 for.fit.formed);
    below = subst (λ (m : ℕ). CoresBelow m (pending (without k.cores id ++ map Some parts.cores))) (sym bound) (subst (CoresBelow (length k.view + 1 + parts.fresh)) (sym pending-divided) all-below);
    clauses = subst (λ (m : ℕ). AtomClausesBelow m k.clauses) (sym bound) (AtomClausesBelow-up (length k.view + 1) (length k.view + 1 + parts.fresh) (omega arith) k.clauses is.clauses);
    small = omega (arith, divided-potential, is.small);
  }

  same-truth : (σ : Valuation) → MeetsView σ k.view → core_truth σ (trimmed_core k.view core) ≡ core_truth σ core
  same-truth σ meets = core_truth-trimmed σ k.view (length k.view + 1) core left-below.0 meets

  back : (σ : Valuation) → IsModel (divided k id parts) σ → IsModel k σ
  back σ m =
      let view : MeetsView σ k.view = (MeetsView-more k.view parts.fresh σ).0 m.view in
      let all = (MeetsAll-append σ left parts.cores).0 (subst (MeetsAll σ) pending-divided m.cores) in
      let met : Meets σ core = sym (same-truth σ view) ∙ for.meaning.implies σ all.1 in
      record { running = m.running; view = view; cores = (met-there k.cores id core at σ).1 (met, all.0); clauses = m.clauses }

  forth : (σ : Valuation) → IsModel k σ → (τ : Valuation) × Agree (length k.view + 1) σ τ × IsModel (divided k id parts) τ
  forth σ m =
      let met = (met-there k.cores id core at σ).0 m.cores in
      let other = for.meaning.extends σ (same-truth σ m.view ∙ met.0) in
      let view : MeetsView other.0 k.view = MeetsView-agree k.view σ other.0 is.labelled other.1 m.view in
      let old : MeetsAll other.0 left = MeetsAll-agree (length k.view + 1) σ other.0 left other.1 left-below.1 met.1 in (
        other.0,
        other.1,
        record {
          running = m.running;
          view = (MeetsView-more k.view parts.fresh other.0).1 view;
          cores = subst (MeetsAll other.0) (sym pending-divided) ((MeetsAll-append other.0 left parts.cores).1 (old, other.2));
          clauses = sym (atom_clauses_agree (length k.view + 1) σ other.0 other.1 k.clauses is.clauses) ∙ m.clauses;
        },
      )

  pub divided-kept : Kept k (divided k id parts)
  divided-kept = record {
    kernel = divided-kernel;
    keeps = record { back = back; forth = forth };
    longer = omega (arith, length-divided);
    later = IsLater-more k.view (own_labels (length k.view + 1) parts.fresh) is.labelled;
    potential = divided-potential;
  }
