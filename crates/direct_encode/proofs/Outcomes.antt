-- What clauses that were put behind none mean.
use Rattle.std.proofs.Common.{◌≡◌, ◌∙◌, ◌≤◌, ◌++◌, ℕ, List, [], ap, subst, sym}
use Rattle.std.specs.Prelude.{IsTrue}
use Rattle.order_ints.specs.declared.atom.Atom.{Atom}
use Rattle.order_ints.specs.Truth.{Valuation}
use Rattle.order_ints.specs.AtomClauses.{atom_clauses_truth}
use Rattle.order_ints.specs.Place.{AtomClausesBelow}
use Rattle.core_forms.specs.declared.form.Core.{Core}
use Rattle.core_forms.specs.Place.{CoreBelow}
use Rattle.core_forms.specs.WellFormed.{IsWellFormed}
use Rattle.core_forms.specs.Basic.{is_basic_of}
use Rattle.core_forms.specs.Cost.{cost_of}
use Rattle.core_forms.specs.Meaning.{core_truth}
use Rattle.direct_encode.specs.Clauses.{clauses_of}
use Rattle.direct_encode.proofs.CoreTruths.{truth-clauses_of}
use Rattle.direct_encode.specs.Literals.{literals}
use Rattle.direct_encode.proofs.CoreSizes.{literals-clauses_of}
use Rattle.direct_encode.proofs.Places.{below-clauses_of}

module _ (core : Core) (old new : List (List Atom)) (none : old ≡ []) (put : new ≡ old ++ clauses_of core) where
  all : new ≡ clauses_of core
  all = put ∙ ap (λ cs. cs ++ clauses_of core) none

  -- they are true together exactly where the core is met
  pub truth-put : IsTrue (is_basic_of core) → IsWellFormed core → (σ : Valuation) → atom_clauses_truth σ new ≡ core_truth σ core
  truth-put basic well σ = ap (atom_clauses_truth σ) all ∙ truth-clauses_of σ core basic well

  -- and their variables have a place where those of the core have
  pub below-put : (n : ℕ) → CoreBelow n core → AtomClausesBelow n new
  below-put n below = subst (λ (cs : List (List Atom)). AtomClausesBelow n cs) (sym all) (below-clauses_of n core below)

  -- and they have at most as many literals as the core costs
  pub size-put : IsTrue (is_basic_of core) → IsWellFormed core → literals new ≤ cost_of core
  size-put basic well = subst (λ (cs : List (List Atom)). literals cs ≤ cost_of core) (sym all) (literals-clauses_of core basic well)
