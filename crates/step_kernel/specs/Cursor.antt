-- How many cores at the beginning are no longer pending.
use Rattle.std.specs.Prelude.{◌≡◌, ℕ, ◌+◌, Bool, List, [], ◌∷◌, Option, None, Some}
use Rattle.order_ints.specs.declared.atom.Atom.{Atom}
use Rattle.core_forms.specs.declared.form.Core.{Core}
use Rattle.equation_store.specs.Store.{Store}
use Rattle.step_kernel.specs.Kernel.{Kernel, IsKernel}
use Rattle.step_kernel.specs.StableMarks.{Rounds, AreStableMarks}

abbrev pub gone_first : List (Option Core) → ℕ
gone_first [] = 0
gone_first (None ∷ cores) = gone_first cores + 1
gone_first (Some core ∷ cores) = 0

-- what a state keeps: its kernel, where the first pending core stands, and that the marked cores are stable
pub record IsState (k : Kernel) (first : ℕ) (marks : Rounds) : Type 0 where
  pub kernel : IsKernel k
  pub cursor : first ≡ gone_first k.cores
  pub stable : AreStableMarks k.view k.cores marks

-- the state of a store, cores, clauses and a mark of bottom
abbrev pub kernel_of : Store → List (Option Core) → List (List Atom) → Bool → Kernel
kernel_of store cores clauses bottom = record { view = store.view; cores = cores; clauses = clauses; bottom = bottom }
