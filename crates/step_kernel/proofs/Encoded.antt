-- What the encoding of a core makes of a state.
use Rattle.std.proofs.Common.{◌≡◌, ℕ, ◌+◌, ◌≤◌, true, ◌&&◌, ◌++◌, length, refl, sym, ◌∙◌, arith, Some}
use Rattle.std.proofs.lemmas.Bool.{and_parts, and_from}
use Rattle.order_ints.specs.Truth.{Valuation, Agree}
use Rattle.order_ints.specs.View.{MeetsView}
use Rattle.order_ints.specs.AtomClauses.{atom_clauses_truth}
use Rattle.order_ints.proofs.Labels.{labels_below, IsLater-itself}
use Rattle.order_ints.proofs.PlaceLaws.{AtomClausesBelow-append}
use Rattle.order_ints.proofs.TruthLaws.{atom_clauses_truth-append}
use Rattle.core_forms.specs.declared.form.Core.{Core}
use Rattle.core_forms.specs.Basic.{is_basic_of}
use Rattle.core_forms.specs.Meaning.{core_truth, Meets}
use Rattle.core_forms.specs.Place.{CoreBelow}
use Rattle.core_forms.specs.WellFormed.{IsWellFormed}
use Rattle.core_forms.specs.Trimmed.{trimmed_core}
use Rattle.core_forms.specs.Cores.{AreWellFormed, CoresBelow}
use Rattle.core_forms.proofs.Kept.{IsWellFormed-trimmed}
use Rattle.core_forms.proofs.Places.{CoreBelow-trimmed}
use Rattle.core_forms.proofs.TidiedCores.{core_truth-trimmed}
use Rattle.direct_encode.specs.Clauses.{clauses_of}
use Rattle.direct_encode.proofs.Sizes.{literals-append}
use Rattle.direct_encode.proofs.CoreSizes.{literals-clauses_of}
use Rattle.direct_encode.proofs.CoreTruths.{truth-clauses_of}
use Rattle.direct_encode.proofs.Places.{below-clauses_of}
use Rattle.step_kernel.specs.Kernel.{Kernel, core_at, pending, potential, IsKernel}
use Rattle.step_kernel.specs.Models.{IsModel}
use Rattle.step_kernel.specs.Steps.{without, encoded}
use Rattle.step_kernel.proofs.Kept.{Kept}
use Rattle.step_kernel.proofs.Holes.{below-there, formed-there, met-there, costs-there}

module _ (k : Kernel) (is : IsKernel k) (id : ℕ) (core : Core) (at : core_at k.cores id ≡ Some core) (basic : is_basic_of (trimmed_core k.view core) ≡ true) where
  there-below : CoreBelow (length k.view + 1) core × CoresBelow (length k.view + 1) (pending (without k.cores id))
  there-below = below-there k.cores id core at (length k.view + 1) is.below

  there-formed : IsWellFormed core × AreWellFormed (pending (without k.cores id))
  there-formed = formed-there k.cores id core at is.formed

  formed : IsWellFormed (trimmed_core k.view core)
  formed = IsWellFormed-trimmed k.view core there-formed.0

  encoded-potential : potential (encoded k id (trimmed_core k.view core)) ≤ potential k
  encoded-potential =
      omega (
        arith,
        literals-clauses_of (trimmed_core k.view core) basic formed,
        literals-append k.clauses (clauses_of (trimmed_core k.view core)),
        costs-there k.cores id core at k.view,
      )

  pub encoded-kernel : IsKernel (encoded k id (trimmed_core k.view core))
  encoded-kernel = record {
    labelled = is.labelled;
    formed = there-formed.1;
    below = there-below.1;
    clauses = AtomClausesBelow-append (length k.view + 1) k.clauses (clauses_of (trimmed_core k.view core)) is.clauses
        (below-clauses_of (length k.view + 1) (trimmed_core k.view core)
        (CoreBelow-trimmed (length k.view + 1) k.view core there-below.0 (labels_below k.view is.labelled)));
    small = omega (arith, encoded-potential, is.small);
  }

  -- the new clauses are met where the core is
  same-truth : (σ : Valuation) → MeetsView σ k.view → atom_clauses_truth σ (clauses_of (trimmed_core k.view core)) ≡ core_truth σ core
  same-truth σ meets =
      truth-clauses_of σ (trimmed_core k.view core) basic formed
      ∙ core_truth-trimmed σ k.view (length k.view + 1) core there-below.0 meets

  both-truth : (σ : Valuation) → atom_clauses_truth σ (k.clauses ++ clauses_of (trimmed_core k.view core)) ≡ (atom_clauses_truth σ k.clauses && atom_clauses_truth σ (clauses_of (trimmed_core k.view core)))
  both-truth σ = atom_clauses_truth-append σ k.clauses (clauses_of (trimmed_core k.view core))

  back : (σ : Valuation) → IsModel (encoded k id (trimmed_core k.view core)) σ → IsModel k σ
  back σ m =
      let p = and_parts (atom_clauses_truth σ k.clauses) (atom_clauses_truth σ (clauses_of (trimmed_core k.view core))) (sym (both-truth σ) ∙ m.clauses) in
      let met : Meets σ core = sym (same-truth σ m.view) ∙ p.1 in
      record { running = m.running; view = m.view; cores = (met-there k.cores id core at σ).1 (met, m.cores); clauses = p.0 }

  forth : (σ : Valuation) → IsModel k σ → (τ : Valuation) × Agree (length k.view + 1) σ τ × IsModel (encoded k id (trimmed_core k.view core)) τ
  forth σ m =
      let p = (met-there k.cores id core at σ).0 m.cores in (
        σ,
        (λ v low. refl),
        record {
          running = m.running;
          view = m.view;
          cores = p.1;
          clauses = both-truth σ ∙ and_from (atom_clauses_truth σ k.clauses) (atom_clauses_truth σ (clauses_of (trimmed_core k.view core))) m.clauses (same-truth σ m.view ∙ p.0);
        },
      )

  pub encoded-kept : Kept k (encoded k id (trimmed_core k.view core))
  encoded-kept = record {
    kernel = encoded-kernel;
    keeps = record { back = back; forth = forth };
    longer = omega arith;
    later = IsLater-itself k.view is.labelled;
    potential = encoded-potential;
  }
