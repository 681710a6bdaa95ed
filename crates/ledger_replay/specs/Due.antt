-- Equations of a run that are still to come at a pending core.
use Rattle.std.specs.Prelude.{◌≡◌, ℕ, ◌+◌, true, false, List, length, Some, drop}
use Rattle.core_forms.specs.declared.equation.Equation.{Equation}
use Rattle.core_forms.specs.declared.form.Core.{Core}
use Rattle.core_forms.specs.Place.{CoreBelow}
use Rattle.core_forms.specs.Trimmed.{trimmed_core}
use Rattle.equation_runs.specs.Turns.{AreInTurn, EquationsBelow, is_stated}
use Rattle.step_kernel.specs.Kernel.{Kernel, trimmed_at}
use Rattle.step_kernel.specs.Instances.{IsInstanceAt}
use Rattle.step_kernel.specs.Steps.{equated}
use Rattle.ledger_replay.specs.declared.run.Run.{Run}

-- Equations are due at the pending core with an id: there is no contradiction; the store has the core as it has some
-- core at which they are what is left of a run, in the view that those of it made that were before them; and core and
-- equations are over its variables.
pub record AreDue (k : Kernel) (id : ℕ) (es : List Equation) : Type 0 where
  pub running : k.bottom ≡ false
  pub core : Core
  pub there : trimmed_at k id ≡ Some (trimmed_core k.view core)
  pub below : CoreBelow (length k.view + 1) core
  pub turn : AreInTurn (λ c e. is_stated c e ≡ true) core k.view es
  pub places : EquationsBelow (length k.view + 1) es

-- the rest of a run is due at its core
abbrev pub IsRunAt : Kernel → Run → Type 0
IsRunAt k run = AreDue k run.id (drop run.place run.equations.items)

-- an equation is an instance at its core, and the others are due where it is made, but for a contradiction
pub record IsNext (k : Kernel) (id : ℕ) (e : Equation) (es : List Equation) : Type 0 where
  pub running : k.bottom ≡ false
  pub instance : IsInstanceAt k id e
  pub behind : (equated k e).bottom ≡ false → AreDue (equated k e) id es
