-- Cores that stand at their variables, whatever else a state has.
use Rattle.std.specs.Prelude.{◌≡◌, ◌↔◌, ◌⊎◌, ℕ, ◌+◌, ◌<◌, ◌≤◌, List, [], ◌∷◌}
use Rattle.std.specs.Prelude.{length, take, slice_index_or, Contains, Option, None, Some}
use Rattle.std.specs.List.Sorted.{IsStrictlyIncreasing}
use Rattle.core_forms.specs.declared.form.Core.{Core}
use Rattle.core_forms.specs.Variables.{core_vars}
use Rattle.core_occurrences.specs.Lists.{OccurrenceLists, Occurs, IsOccurrences}
use Rattle.index_ring.specs.Lists.{times}
use Rattle.fixpoint_queue.specs.IdQueue.{Ids, IsIds}
use Rattle.step_kernel.specs.Kernel.{core_at}

-- a listed core has the variable
abbrev pub HasVarAt : List (Option Core) → ℕ → ℕ → Type 0
HasVarAt cores id v = (core : Core) × (core_at cores id ≡ Some core) × Contains (core_vars core) v

-- there is a core with an id
abbrev pub IsThere : List (Option Core) → ℕ → Type 0
IsThere cores id = (core : Core) × (core_at cores id ≡ Some core)

-- the ids at each variable are those of listed cores, of each that has it, and perhaps of others
abbrev pub Stand : List (Option Core) → OccurrenceLists → Type 0
Stand cores occurs = (v id : ℕ) → 1 ≤ v → (Occurs occurs v id → IsThere cores id)
    × (HasVarAt cores id v → Occurs occurs v id)

-- so it is of all ids but one
abbrev pub StandBut : ℕ → List (Option Core) → OccurrenceLists → Type 0
StandBut held cores occurs = (v id : ℕ) → 1 ≤ v → (id ≡ held → ⊥)
    → (Occurs occurs v id → IsThere cores id) × (HasVarAt cores id v → Occurs occurs v id)

-- the variables of a core, ascending, each once
pub record AreVars (vars : List ℕ) (core : Core) : Type 0 where
  pub ascending : IsStrictlyIncreasing vars
  pub exact : (v : ℕ) → Contains vars v ↔ Contains (core_vars core) v

-- those of each core
abbrev pub AreAllVars : List (List ℕ) → List Core → Type 0
AreAllVars [] [] = Unit {0}
AreAllVars [] (core ∷ cores) = ⊥
AreAllVars (vars ∷ lists) [] = ⊥
AreAllVars (vars ∷ lists) (core ∷ cores) = AreVars vars core × AreAllVars lists cores

-- how many there are
abbrev pub all_counted : List (List ℕ) → ℕ
all_counted [] = 0
all_counted (vars ∷ lists) = length vars + all_counted lists

-- listed variables are those of the cores behind so many others; what is listed for one id may be anything
abbrev pub AreVarsFrom : List (Option Core) → ℕ → ℕ → List (List ℕ) → Type 0
AreVarsFrom cores before held lists = (i : ℕ) → i < length lists →
    (core : Core) × (slice_index_or cores (before + i) None ≡ Some core)
    × ((before + i + 1 ≡ held → ⊥) → AreVars (slice_index_or lists i []) core)

-- so many cores more than before stand at their variables, and are in the queue; of one id nothing is said but that it
-- stands where it stood
pub record AreEntered (held : ℕ) (cores : List (Option Core)) (before count : ℕ)
    (old_occurs new_occurs : OccurrenceLists) (old_queue new_queue : Ids) : Type 0 where
  pub stand : StandBut held (take (before + count) cores) new_occurs
  pub keeps : (v id : ℕ) → 1 ≤ v → Occurs old_occurs v id → Occurs new_occurs v id
  pub occurrences : IsOccurrences new_occurs
  pub lists : length new_occurs.lists ≡ length old_occurs.lists
  pub ids : new_occurs.ids ≡ old_occurs.ids
  pub places : new_queue.places ≡ old_queue.places
  pub queued : IsIds new_queue
  pub stays : (id : ℕ) → 1 ≤ times id old_queue.queued → 1 ≤ times id new_queue.queued
  pub come : (id : ℕ) → before < id → id ≤ before + count → 1 ≤ times id new_queue.queued
  pub only : (id : ℕ) → 1 ≤ times id new_queue.queued → (1 ≤ times id old_queue.queued)
      ⊎ ((before < id) × (id ≤ before + count))

-- the pending ones among so many cores stand at their variables and are in the queue, and no others
pub record ArePending (cores : List (Option Core)) (count : ℕ) (occurs : OccurrenceLists) (queue : Ids) : Type 0 where
  pub stand : StandBut 0 (take count cores) occurs
  pub occurrences : IsOccurrences occurs
  pub queued : IsIds queue
  pub come : (id : ℕ) (core : Core) → core_at (take count cores) id ≡ Some core → 1 ≤ times id queue.queued
  pub only : (id : ℕ) → 1 ≤ times id queue.queued → (core : Core)
      × (core_at (take count cores) id ≡ Some core)
