-- What contracts see of the state of a compilation.
use Rattle.std.specs.Prelude.{ℕ, ◌+◌, ◌-◌, ◌^◌, ◌≤◌, ◌==◌, Bool, false, List, [], ◌∷◌}
use Rattle.std.specs.Prelude.{map, length, slice_index_or, Option, None, Some, option_map, if◌then◌else◌}
use Rattle.order_ints.specs.declared.atom.Atom.{Atom}
use Rattle.order_ints.specs.Place.{AtomClausesBelow}
use Rattle.order_ints.specs.Label.{IsLabelled, own_labels}
use Rattle.core_forms.specs.declared.form.Core.{Core}
use Rattle.core_forms.specs.Trimmed.{trimmed_core}
use Rattle.core_forms.specs.Cores.{CoresBelow, AreWellFormed, costs_of}
use Rattle.direct_encode.specs.Literals.{literals}

-- The state: for each variable its label, which together are the store; for each id, from 1 on, its core as it was
-- made, or nothing where that is no longer pending; the clauses; and bottom, which is set where a contradiction was
-- found.
pub record Kernel : Type 0 where
  pub view : List Atom
  pub cores : List (Option Core)
  pub clauses : List (List Atom)
  pub bottom : Bool

-- the pending core with an id, as it was made
abbrev pub core_at : List (Option Core) → ℕ → Option Core
core_at cores id = if id == 0 then None else slice_index_or cores (id - 1) None

-- and as the store has it
abbrev pub trimmed_at : Kernel → ℕ → Option Core
trimmed_at k id = option_map (trimmed_core k.view) (core_at k.cores id)

-- the pending cores, by their ids upwards
abbrev pub pending : List (Option Core) → List Core
pending [] = []
pending (None ∷ cores) = pending cores
pending (Some core ∷ cores) = core ∷ pending cores

-- the costs of cores as the store has them
abbrev pub trimmed_costs : List Atom → List Core → ℕ
trimmed_costs view cores = costs_of (map (trimmed_core view) cores)

-- variables, costs of the pending cores as the store has them, and literals of the clauses, counted together: what no
-- step raises
abbrev pub potential : Kernel → ℕ
potential k = length k.view + trimmed_costs k.view (pending k.cores) + literals k.clauses

-- the most that a state may have of that
abbrev pub most_potential : ℕ
most_potential = 2 ^ 26

-- labels label themselves; the pending cores are well formed; they and the clauses are over the variables; and the
-- state is not too large
pub record IsKernel (k : Kernel) : Type 0 where
  pub labelled : IsLabelled k.view
  pub formed : AreWellFormed (pending k.cores)
  pub below : CoresBelow (length k.view + 1) (pending k.cores)
  pub clauses : AtomClausesBelow (length k.view + 1) k.clauses
  pub small : potential k ≤ most_potential

-- the state of cores over as many variables: each variable is its own label, and each core is pending
abbrev pub started : ℕ → List Core → Kernel
started vars cores = record { view = own_labels 1 vars; cores = map Some cores; clauses = []; bottom = false }
