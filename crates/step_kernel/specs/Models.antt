-- The models of a state, and when a later state has those of an earlier one.
use Rattle.std.specs.Prelude.{◌≡◌, ◌+◌, false, length, IsTrue}
use Rattle.order_ints.specs.Truth.{Valuation, Agree}
use Rattle.order_ints.specs.View.{MeetsView}
use Rattle.order_ints.specs.AtomClauses.{atom_clauses_truth}
use Rattle.core_forms.specs.Cores.{MeetsAll}
use Rattle.step_kernel.specs.Kernel.{Kernel, pending}

-- A valuation is a model of a state that is not at bottom where each variable is as true as its label, and each pending
-- core and each clause is met.
pub record IsModel (k : Kernel) (σ : Valuation) : Type 0 where
  pub running : k.bottom ≡ false
  pub view : MeetsView σ k.view
  pub cores : MeetsAll σ (pending k.cores)
  pub clauses : IsTrue (atom_clauses_truth σ k.clauses)

-- The models of the new state are those of the old one, as far as its variables go: each model of the new state is one
-- of the old one, and each of the old one can be changed beyond its variables so that it is one of the new state.
pub record Keeps (old new : Kernel) : Type 0 where
  pub back : (σ : Valuation) → IsModel new σ → IsModel old σ
  pub forth : (σ : Valuation) → IsModel old σ → (τ : Valuation) × Agree (length old.view + 1) σ τ
      × IsModel new τ
