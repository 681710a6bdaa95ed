-- What a queue of cores keeps.
use Rattle.std.specs.Prelude.{◌≡◌, ◌⊎◌, ℕ, ◌+◌, ◌*◌, ◌<◌, ◌≤◌, Bool, List, length, Some}
use Rattle.std.specs.Prelude.{MatchOption, if◌then◌else◌}
use Rattle.index_ring.specs.Lists.{times}
use Rattle.core_forms.specs.declared.equation.Equation.{Equation}
use Rattle.core_forms.specs.declared.form.Core.{Core}
use Rattle.equation_store.specs.Class.{IsMember, number_own}
use Rattle.equation_store.specs.Merge.{loser_of}
use Rattle.step_kernel.specs.Kernel.{Kernel, core_at, trimmed_at, IsKernel}
use Rattle.step_kernel.specs.Least.{is_compound_if}
use Rattle.fixpoint_queue.specs.IdQueue.{Ids, IsIds}
use Rattle.core_occurrences.specs.Lists.{OccurrenceLists}
use Rattle.fixpoint_queue.specs.Listed.{HasVar, IsListed}
use Rattle.fixpoint_queue.specs.Marks.{mark_of}
use Rattle.fixpoint_queue.specs.Quiet.{IsQuiet}

-- each core that is not in the queue tells nothing
abbrev pub Waits : (Core → Equation → Type 0) → Kernel → List ℕ → Type 0
Waits told k queued = (id : ℕ) → times id queued ≡ 0 → IsQuiet told k id

-- and the marks tell whether it is pending and compound, as the store has it
abbrev pub AreMarked : Kernel → List ℕ → List Bool → Type 0
AreMarked k queued marks = (id : ℕ) → times id queued ≡ 0
    → mark_of marks id ≡ is_compound_if (trimmed_at k id)

-- a state whose cores stand at their variables, and a queue with a place for each core, in which each core waits that
-- may tell something
pub record IsSaturation (told : Core → Equation →
    Type 0) (k : Kernel) (occurs : OccurrenceLists) (queue : Ids) (marks : List Bool) : Type 0 where
  pub kernel : IsKernel k
  pub listed : IsListed k occurs
  pub places : length k.cores < queue.places
  pub queued : IsIds queue
  pub pending : (id : ℕ) → 1 ≤ times id queue.queued → (core : Core) × (core_at k.cores id ≡ Some core)
  pub waits : Waits told k queue.queued
  pub mark_places : length k.cores ≤ length marks
  pub marked : AreMarked k queue.queued marks

-- the queue has what it had, and each pending core that has a member of the class of x; and nothing else
pub record IsWoken (k : Kernel) (x : ℕ) (old new : Ids) : Type 0 where
  pub places : new.places ≡ old.places
  pub ids : IsIds new
  pub stays : (id : ℕ) → 1 ≤ times id old.queued → 1 ≤ times id new.queued
  pub woken : (v id : ℕ) → IsMember k.view x v → HasVar k id v → 1 ≤ times id new.queued
  pub only : (id : ℕ) → 1 ≤ times id new.queued → (1 ≤ times id old.queued)
      ⊎ ((v : ℕ) × IsMember k.view x v × HasVar k id v)

-- what falls with each query: the classes count for more than the queue can hold
abbrev pub left_to_do : Kernel → Ids → ℕ
left_to_do k queue = if k.bottom then 0 else number_own k.view * (queue.places + 1) + length queue.queued + 1

-- how many cores are left to be asked: none at bottom
abbrev pub left_to_ask : Kernel → Ids → ℕ
left_to_ask k queue = if k.bottom then 0 else length queue.queued

-- the queue has what it had, and each pending core that has a member of the class that loses, if one does
abbrev pub IsWokenFor : Kernel → Equation → Ids → Ids → Type 0
IsWokenFor k e old new = MatchOption (loser_of k.view e.a e.b) (new ≡ old) (λ x. IsWoken k x old new)
