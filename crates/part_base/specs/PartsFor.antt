-- What is wanted of the parts of a core.
use Rattle.std.specs.Prelude.{ℕ, ◌+◌, ◌≤◌}
use Rattle.order_ints.specs.Represents.{Represents}
use Rattle.core_forms.specs.declared.form.Core.{Core}
use Rattle.core_forms.specs.Meaning.{Meets}
use Rattle.core_forms.specs.Cost.{cost_of}
use Rattle.core_forms.specs.Cores.{MeetsAll, CoresBelow, AreWellFormed, costs_of}
use Rattle.part_base.specs.declared.parts.Parts.{Parts}

-- each part is well formed, and its variables are below those fresh ones that are not taken
pub record DoFit (next : ℕ) (parts : Parts) : Type 0 where
  pub formed : AreWellFormed parts.cores
  pub below : CoresBelow (next + parts.fresh) parts.cores

-- Parts of a core whose variables are below next, with the fresh variables from next on: they stand for the core, both
-- ways; they fit; and fresh variables and costs together are at most the cost of the core.
pub record ArePartsFor (core : Core) (next : ℕ) (parts : Parts) : Type 0 where
  pub meaning : Represents next (next + parts.fresh) (λ σ. MeetsAll σ parts.cores) (λ σ. Meets σ core)
  pub fit : DoFit next parts
  pub cost : parts.fresh + costs_of parts.cores ≤ cost_of core
