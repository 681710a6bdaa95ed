-- Instances at the cores of a state.
use Rattle.std.specs.Prelude.{◌≡◌, ℕ, true, Some}
use Rattle.core_forms.specs.declared.equation.Equation.{Equation}
use Rattle.core_forms.specs.declared.form.Core.{Core}
use Rattle.core_rules.specs.Instances.{is_instance_at}
use Rattle.step_kernel.specs.Kernel.{Kernel, trimmed_at}

-- an equation is an instance at the pending core with an id, as the store has it
abbrev pub IsInstanceAt : Kernel → ℕ → Equation → Type 0
IsInstanceAt k id e = (core : Core) × (trimmed_at k id ≡ Some core) × (is_instance_at core e ≡ true)
