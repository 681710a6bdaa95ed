-- Lists of cores: whether all are met, and their variables, limits and costs.
use Rattle.std.specs.Prelude.{ℕ, ◌+◌, Bool, true, ◌&&◌, List, [], ◌∷◌, IsTrue}
use Rattle.order_ints.specs.Truth.{Valuation}
use Rattle.core_forms.specs.declared.form.Core.{Core}
use Rattle.core_forms.specs.Meaning.{core_truth}
use Rattle.core_forms.specs.Place.{CoreBelow}
use Rattle.core_forms.specs.WellFormed.{IsWellFormed}
use Rattle.core_forms.specs.Cost.{cost_of}

-- whether all cores are met
abbrev pub cores_truth : Valuation → List Core → Bool
cores_truth σ [] = true
cores_truth σ (core ∷ cores) = core_truth σ core && cores_truth σ cores

-- a valuation meets all cores
abbrev pub MeetsAll : Valuation → List Core → Type 0
MeetsAll σ cores = IsTrue (cores_truth σ cores)

-- the variables of each core are from 1 and below n
abbrev pub CoresBelow : ℕ → List Core → Type 0
CoresBelow n [] = Unit {0}
CoresBelow n (core ∷ cores) = CoreBelow n core × CoresBelow n cores

-- each core is well formed
abbrev pub AreWellFormed : List Core → Type 0
AreWellFormed [] = Unit {0}
AreWellFormed (core ∷ cores) = IsWellFormed core × AreWellFormed cores

-- the costs of all cores, added up
abbrev pub costs_of : List Core → ℕ
costs_of [] = 0
costs_of (core ∷ cores) = cost_of core + costs_of cores
