-- What the CNF of a state says.
use Rattle.std.proofs.Common.{◌≡◌, ◌↔◌, ◌+◌, Bool, true, false, [], ◌∷◌, length, refl, sym, ◌∙◌, subst, Result, Ok, Err}
use Rattle.std.specs.Prelude.{IsTrue, IfOk, if◌then◌else◌}
use Rattle.std.proofs.lemmas.Bool.{false≢true, true≢false}
use Rattle.order_ints.specs.declared.cnf.Cnf.{Cnf}
use Rattle.order_ints.specs.Truth.{Valuation}
use Rattle.order_ints.specs.View.{MeetsView}
use Rattle.order_ints.specs.Place.{ClausesBelow, InRange}
use Rattle.order_ints.specs.Satisfies.{clauses_truth, Satisfies}
use Rattle.order_ints.specs.AtomClauses.{atom_clauses_truth}
use Rattle.order_ints.specs.OrderedClauses.{ordered_clauses}
use Rattle.order_ints.proofs.Labels.{labels_below}
use Rattle.order_ints.proofs.OrderedLaws.{clauses_truth-ordered_clauses, ClausesBelow-ordered_clauses}
use Rattle.core_forms.specs.Cores.{MeetsAll}
use Rattle.step_kernel.specs.Kernel.{Kernel, pending, IsKernel}
use Rattle.step_kernel.specs.Models.{IsModel}
use Rattle.step_kernel.specs.CnfOf.{cnf_of}

module _ (k : Kernel) (is : IsKernel k) where
  clauses-below : (b : Bool) → ClausesBelow (length k.view + 1) (if b then [] ∷ [] else ordered_clauses k.view k.clauses)
  clauses-below true = (tt, tt)
  clauses-below false = ClausesBelow-ordered_clauses (length k.view + 1) k.view (labels_below k.view is.labelled) k.clauses is.clauses

  pub cnf-in_range : InRange (cnf_of k)
  cnf-in_range = clauses-below k.bottom

  pub cnf-models : pending k.cores ≡ [] → (σ : Valuation) → MeetsView σ k.view → Satisfies σ (cnf_of k) ↔ IsModel k σ
  cnf-models none σ meets = by k.bottom refl
    where
      same : clauses_truth σ (ordered_clauses k.view k.clauses) ≡ atom_clauses_truth σ k.clauses
      same = clauses_truth-ordered_clauses σ k.view (length k.view + 1) meets k.clauses is.clauses

      by : (b : Bool) → k.bottom ≡ b → IsTrue (clauses_truth σ (if b then [] ∷ [] else ordered_clauses k.view k.clauses)) ↔ IsModel k σ
      by true bottom = (λ h. absurd (false≢true h), λ m. absurd (true≢false (sym bottom ∙ m.running)))
      by false running = (
        λ h. record { running = running; view = meets; cores = subst (MeetsAll σ) (sym none) refl; clauses = sym same ∙ h },
        λ m. same ∙ m.clauses,
      )

pub in_range-of : {E : Type 0} (k : Kernel) (r : Result Cnf E) → IsKernel k → IfOk r (λ cnf. cnf ≡ cnf_of k) → IfOk r InRange
in_range-of k (Ok cnf) is h = subst InRange (sym h) (cnf-in_range k is)
in_range-of k (Err e) is h = tt

pub models-of : {E : Type 0} (k : Kernel) (r : Result Cnf E) → IsKernel k → IfOk r (λ cnf. cnf ≡ cnf_of k)
    → IfOk r (λ cnf. pending k.cores ≡ [] → (σ : Valuation) → MeetsView σ k.view → Satisfies σ cnf ↔ IsModel k σ)
models-of k (Ok cnf) is h = subst (λ (c : Cnf). pending k.cores ≡ [] → (σ : Valuation) → MeetsView σ k.view → Satisfies σ c ↔ IsModel k σ) (sym h) (cnf-models k is)
models-of k (Err e) is h = tt
