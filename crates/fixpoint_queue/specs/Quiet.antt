-- Which cores tell nothing, and states in which none does.
use Rattle.std.specs.Prelude.{◌≡◌, ℕ, Some}
use Rattle.core_forms.specs.declared.equation.Equation.{Equation}
use Rattle.core_forms.specs.declared.form.Core.{Core}
use Rattle.step_kernel.specs.Kernel.{Kernel, trimmed_at}

-- nothing is told at the pending core with an id, as the store has it
abbrev pub IsQuiet : (Core → Equation → Type 0) → Kernel → ℕ → Type 0
IsQuiet told k id = (core : Core) → trimmed_at k id ≡ Some core → (e : Equation) → told core e → ⊥

-- nothing is told at any pending core
abbrev pub IsClosed : (Core → Equation → Type 0) → Kernel → Type 0
IsClosed told k = (id : ℕ) → IsQuiet told k id
