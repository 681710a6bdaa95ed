-- The different variables of a core, ascending, and whether they are few.
use Rattle.std.specs.Prelude.{ℕ, nat_eq, nat_lt, nat_le, length, List, [], ◌∷◌, Option, Some, None}
use Rattle.std.specs.Prelude.{if◌then◌else◌}
use Rattle.order_ints.specs.Placing.{placed_by}
use Rattle.core_forms.specs.declared.form.Core.{Core}
use Rattle.core_forms.specs.Variables.{core_vars}

-- ascending variables with one more at its place, unless it is there
abbrev pub with_var : ℕ → List ℕ → List ℕ
with_var v vars = placed_by nat_eq nat_lt v vars

-- with each of the listed ones
abbrev pub with_vars : List ℕ → List ℕ → List ℕ
with_vars [] vars = vars
with_vars (v ∷ more) vars = with_vars more (with_var v vars)

-- the different variables of a core, ascending
abbrev pub own_vars : Core → List ℕ
own_vars core = with_vars (core_vars core) []

-- variables, where there are at most eight
abbrev pub if_few : List ℕ → Option (List ℕ)
if_few vars = if nat_le (length vars) 8 then Some vars else None
