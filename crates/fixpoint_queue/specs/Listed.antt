-- Which cores stand at which variables.
use Rattle.std.specs.Prelude.{◌≡◌, ℕ, ◌≤◌, Contains, Some, length}
use Rattle.core_forms.specs.declared.form.Core.{Core}
use Rattle.core_forms.specs.Variables.{core_vars}
use Rattle.step_kernel.specs.Kernel.{Kernel, core_at}
use Rattle.core_occurrences.specs.Lists.{OccurrenceLists, Occurs, IsOccurrences}

-- a pending core has the variable, as it was made
abbrev pub HasVar : Kernel → ℕ → ℕ → Type 0
HasVar k id v = (core : Core) × (core_at k.cores id ≡ Some core) × Contains (core_vars core) v

-- the ids at each variable are those of pending cores, of each that has it, and perhaps of others; there is a list for
-- each variable, and a place for each core, and perhaps for further ones
pub record IsListed (k : Kernel) (occurs : OccurrenceLists) : Type 0 where
  pub occurrences : IsOccurrences occurs
  pub vars : length k.view ≤ length occurs.lists
  pub ids : length k.cores ≤ occurs.ids
  pub there : (v id : ℕ) → 1 ≤ v → (Occurs occurs v id → (core : Core) × (core_at k.cores id ≡ Some core))
      × (HasVar k id v → Occurs occurs v id)
