-- A core whose occurrences are handed on.
use Rattle.std.specs.Prelude.{◌≡◌, ◌↔◌, ◌⊎◌, ℕ, ◌+◌, ◌<◌, ◌≤◌, List, [], length, take}
use Rattle.std.specs.Prelude.{slice_index_or, Contains, None}
use Rattle.index_ring.specs.Lists.{times}
use Rattle.core_occurrences.specs.Lists.{OccurrenceLists, Occurs, IsOccurrences}
use Rattle.step_kernel.specs.Kernel.{Kernel, core_at, IsKernel}
use Rattle.fixpoint_queue.specs.IdQueue.{Ids, IsIds}
use Rattle.fixpoint_queue.specs.Listed.{HasVar, IsListed}
use Rattle.fixpoint_queue.specs.Standing.{HasVarAt, StandBut, AreVarsFrom, all_counted}

-- the listed variables at a place, if there is one, are some few and such as a pending core has
pub record IsRest (k : Kernel) (id : ℕ) (lists : List (List ℕ)) (place : ℕ) (come : List ℕ) : Type 0 where
  pub few : length come ≤ 64
  pub from : (v : ℕ) → Contains come v → (place < length lists) × Contains (slice_index_or lists place []) v
  pub all : place < length lists → (v : ℕ) → Contains (slice_index_or lists place []) v → Contains come v
      ⊎ HasVar k id v

-- no variable occurs in a core any more, and all occur as before in the others but for one, which holds what that one
-- had
pub record IsHanded (old new : OccurrenceLists) (gone held : ℕ) : Type 0 where
  pub nothing : (v : ℕ) → ¬ Occurs new v gone
  pub others : (v id : ℕ) → 1 ≤ v → (id ≡ gone → ⊥) → (id ≡ held → ⊥)
      → Occurs new v id ↔ Occurs old v id
  pub lists : length new.lists ≡ length old.lists
  pub ids : new.ids ≡ old.ids
  pub occurrences : IsOccurrences new

-- an id is 0, or that of the core at a place behind others, which has the variables of another one and these
abbrev pub Holds : OccurrenceLists → OccurrenceLists → ℕ → ℕ → ℕ → ℕ → List ℕ → ℕ → Type 0
Holds old new gone before place count come held =
    (held ≡ 0)
    ⊎ ((place < count) × (held ≡ before + place + 1)
    × ((v : ℕ) → 1 ≤ v → Contains come v ⊎ Occurs old v gone → Occurs new v held))

-- Listed cores that come behind others, with the variables of all but the one with the id given, and one of them at
-- whose variables one that has gone stood, but for those that come; there is room for all.
pub record AreComing (new : Kernel) (before gone place unlisted : ℕ) (come : List ℕ) (lists : List (List ℕ))
    (occurs : OccurrenceLists) (queue : Ids) : Type 0 where
  pub kernel : IsKernel new
  pub listed : AreVarsFrom new.cores before unlisted lists
  pub many : length new.cores ≡ before + length lists
  pub bounds : (1 ≤ gone) × (gone ≤ before)
  pub empty : core_at (take before new.cores) gone ≡ None
  pub stand : StandBut gone (take before new.cores) occurs
  pub occurrences : IsOccurrences occurs
  pub vars : length new.view ≤ length occurs.lists
  pub ids : before + length lists ≤ occurs.ids
  pub room : all_counted lists + length come ≤ occurs.room
  pub places : before + length lists < queue.places
  pub queued : IsIds queue
  pub from : (v : ℕ) → Contains come v → (1 ≤ v) × (v ≤ length new.view)
  pub all : place < length lists → (v : ℕ) → HasVarAt new.cores (before + place + 1) v → Contains come v
      ⊎ Occurs occurs v gone

-- they have come to their variables and into the queue
pub record HaveCome (new : Kernel) (before count : ℕ) (occurs : OccurrenceLists) (old_queue queue : Ids)
    : Type 0 where
  pub listed : IsListed new occurs
  pub places : queue.places ≡ old_queue.places
  pub queued : IsIds queue
  pub stays : (id : ℕ) → 1 ≤ times id old_queue.queued → 1 ≤ times id queue.queued
  pub come : (id : ℕ) → before < id → id ≤ before + count → 1 ≤ times id queue.queued
  pub only : (id : ℕ) → 1 ≤ times id queue.queued → (1 ≤ times id old_queue.queued)
      ⊎ ((before < id) × (id ≤ before + count))
