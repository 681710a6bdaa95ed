-- A pending core whose edge stands as the store has it for a while, so that it is lent as it stands.
use Rattle.std.specs.Prelude.{◌≡◌, ℕ, ◌-◌, Some, Contains, slice_set}
use Rattle.core_forms.specs.declared.edges.Edge.{Edge}
use Rattle.core_forms.specs.declared.form.Core.{Core}
use Rattle.core_forms.specs.Edges.{settled_core, restored, listed_vars, IsStableInside}
use Rattle.core_forms.specs.Stable.{IsStableCore}
use Rattle.core_forms.specs.Variables.{core_vars}
use Rattle.step_kernel.specs.Kernel.{Kernel, core_at, IsKernel}

-- the state with another core at an id
abbrev pub with_core : Kernel → ℕ → Core → Kernel
with_core k id core = record k { cores = slice_set k.cores (id - 1) (Some core) }

-- a state in which the edge of a pending core that is stable inside was settled, and what stood there
pub record IsSettled (k now : Kernel) (id : ℕ) (edge : Edge) : Type 0 where
  pub core : Core
  pub there : core_at k.cores id ≡ Some core
  pub inside : IsStableInside k.view core
  pub is : now ≡ with_core k id (settled_core k.view core)
  pub restored : restored edge (settled_core k.view core) ≡ core

-- and the core is stable so, and lists no variable that it did not have
pub record IsSettledWhole (k now : Kernel) (id : ℕ) (edge : Edge) : Type 0 where
  pub settled : IsSettled k now id edge
  pub stable : IsStableCore k.view (settled_core k.view settled.core)
  pub own : (v : ℕ) → Contains (listed_vars (settled_core k.view settled.core)) v → Contains (core_vars settled.core) v

-- the edge was settled in some state
pub record WasSettled (now : Kernel) (id : ℕ) (edge : Edge) : Type 0 where
  pub before : Kernel
  pub kernel : IsKernel before
  pub settled : IsSettled before now id edge
