-- What the CNF of a state says of an earlier state.
use Rattle.std.specs.Prelude.{◌+◌, length, List}
use Rattle.order_ints.specs.declared.atom.Atom.{Atom}
use Rattle.order_ints.specs.Truth.{Valuation, Agree, atom_truth}
use Rattle.order_ints.specs.Satisfies.{Satisfies}
use Rattle.order_ints.specs.View.{label_of, MeetsView}
use Rattle.step_kernel.specs.Kernel.{Kernel}
use Rattle.step_kernel.specs.Models.{IsModel}
use Rattle.step_kernel.specs.CnfOf.{cnf_of}

-- The satisfying valuations of the last state's CNF that meet its store, cut to the variables of the first state, are
-- exactly the models of that: each of them is one, and each model can be changed beyond the variables so that it is one
-- of them.
pub record CnfStandsFor (start last : Kernel) : Type 0 where
  pub back : (σ : Valuation) → MeetsView σ last.view → Satisfies σ (cnf_of last) → IsModel start σ
  pub forth : (σ : Valuation) → IsModel start σ → (τ : Valuation) × Agree (length start.view + 1) σ τ
      × MeetsView τ last.view × Satisfies τ (cnf_of last)

-- a valuation read by a view: each variable is as true as its label
abbrev pub read_by : List Atom → Valuation → Valuation
read_by view σ v = atom_truth σ (label_of view v)
