-- The least ids of pending cores.
use Rattle.std.specs.Prelude.{ℕ, ◌+◌, Bool, true, false, List, [], ◌∷◌, Option, None, Some}
use Rattle.std.specs.Prelude.{if◌then◌else◌}
use Rattle.core_forms.specs.declared.form.Core.{Core}
use Rattle.core_forms.specs.Trimmed.{trimmed_core}
use Rattle.step_kernel.specs.Kernel.{Kernel}
use Rattle.core_parts.specs.Parts.{is_compound_of}

-- the least id of a pending core that passes a test, where the first core has the id that is given
abbrev pub least_from : (Core → Bool) → ℕ → List (Option Core) → Option ℕ
least_from test id [] = None
least_from test id (None ∷ cores) = least_from test (id + 1) cores
least_from test id (Some core ∷ cores) = if test core then Some id else least_from test (id + 1) cores

-- the least pending id
abbrev pub least_of : Kernel → Option ℕ
least_of k = least_from (λ core. true) 1 k.cores

-- whether there is a core, and it is compound
abbrev pub is_compound_if : Option Core → Bool
is_compound_if None = false
is_compound_if (Some core) = is_compound_of core

-- the least pending id whose core, as the store has it, is compound
abbrev pub least_compound_of : Kernel → Option ℕ
least_compound_of k = least_from (λ core. is_compound_of (trimmed_core k.view core)) 1 k.cores
