-- More places for cores, for their variables and for their ids; what stands in them stays.
use Rattle.std.specs.Prelude.{◌≡◌, ℕ, ◌+◌, ◌<◌, ◌≤◌, Bool, List, length}
use Rattle.core_occurrences.specs.Lists.{OccurrenceLists, IsOccurrences, cores_at}
use Rattle.step_kernel.specs.Kernel.{Kernel}
use Rattle.fixpoint_queue.specs.IdQueue.{Ids, IsIds}
use Rattle.fixpoint_queue.specs.Marks.{AreLonger}
use Rattle.fixpoint_queue.specs.Standing.{all_counted}

-- the cores at each variable stay
pub record AreWider (old new : OccurrenceLists) : Type 0 where
  pub at : (v : ℕ) → cores_at new v ≡ cores_at old v
  pub lists : length old.lists ≤ length new.lists
  pub ids : old.ids ≤ new.ids
  pub occurrences : IsOccurrences new

-- as do the queue and the marks
pub record IsWider (first next : OccurrenceLists) (queue wide : Ids) (short longer : List Bool) : Type 0 where
  pub occurs : AreWider first next
  pub queued : wide.queued ≡ queue.queued
  pub places : queue.places ≤ wide.places
  pub is : IsIds wide
  pub marks : AreLonger short longer

-- there is room for so many fresh variables, for so many cores with these variables, and for some occurrences more
pub record HasRoom (k : Kernel) (fresh more : ℕ) (lists : List (List ℕ)) (occurs : OccurrenceLists) (queue : Ids)
    (flags : List Bool) : Type 0 where
  pub vars : length k.view + fresh ≤ length occurs.lists
  pub ids : length k.cores + length lists ≤ occurs.ids
  pub room : all_counted lists + more ≤ occurs.room
  pub places : length k.cores + length lists < queue.places
  pub marks : length k.cores + length lists ≤ length flags
