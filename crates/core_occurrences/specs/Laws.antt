-- Laws of the lists of ids where cores come and go.
use Rattle.std.specs.Prelude.{◌≡◌, ◌≢◌, ◌==◌, ◌↔◌, ◌⊎◌, ℕ, ◌+◌, ◌≤◌, List, []}
use Rattle.std.specs.Prelude.{◌∷◌, ◌++◌, length, if◌then◌else◌}
use Rattle.std.specs.List.{All, Contains, list_any}
use Rattle.std.specs.List.Sorted.{IsStrictlyIncreasing}
use Rattle.index_ring.specs.Lists.{times_in_all, without}
use Rattle.index_ring.specs.Laws.{total_length}
use Rattle.core_occurrences.specs.Lists.{OccurrenceLists, IsOccurrences, Occurs, cores_at, no_occurrences, grown, added}
use Rattle.core_occurrences.specs.Lists.{removed}
use Rattle.core_occurrences.specs.Bodies.{swapped, exchanged}

-- the core that has come is the last one at each of its variables
abbrev pub AddedBehind : Type 0
AddedBehind = (old : OccurrenceLists) (id : ℕ) (vars : List ℕ) (v : ℕ) → 1 ≤ v → v ≤ length old.lists
    → Contains vars v → cores_at (added old id vars) v ≡ cores_at old v ++ id ∷ []

-- the lists of all other variables stay
abbrev pub AddedElsewhere : Type 0
AddedElsewhere = (old : OccurrenceLists) (id : ℕ) (vars : List ℕ) (v : ℕ) → 1 ≤ v → ¬ Contains vars v
    → cores_at (added old id vars) v ≡ cores_at old v

-- a variable occurs in the core that has come where it is listed, and in the others as before
abbrev pub AddedOccurs : Type 0
AddedOccurs = (old : OccurrenceLists) (id : ℕ) (vars : List ℕ) (v w : ℕ) → 1 ≤ v → v ≤ length old.lists
    → Occurs (added old id vars) v w ↔ (Occurs old v w ⊎ ((w ≡ id) × Contains vars v))

-- each list keeps its other members
abbrev pub RemovedWithout : Type 0
RemovedWithout = (old : OccurrenceLists) (id v : ℕ) → cores_at (removed old id) v ≡ without id (cores_at old v)

-- no variable occurs in the core that has gone, and all occur in the others as before
abbrev pub RemovedOccurs : Type 0
RemovedOccurs = (old : OccurrenceLists) (id v w : ℕ)
    → Occurs (removed old id) v w ↔ (Occurs old v w × (w ≢ id))

-- a variable occurs in each of two cores where it occurred in the other, and in all others as before
abbrev pub ExchangedOccurs : Type 0
ExchangedOccurs = (old : OccurrenceLists) (first second v w : ℕ)
    → Occurs (exchanged old first second) v w ↔ Occurs old v (swapped first second w)

-- lists stay where they are joined by others, which are empty
abbrev pub GrownStays : Type 0
GrownStays = (old : OccurrenceLists) (vars ids nodes v : ℕ)
    → cores_at (grown old vars ids nodes) v ≡ cores_at old v

abbrev pub NothingOccurs : Type 0
NothingOccurs = (vars v w : ℕ) → ¬ Occurs (no_occurrences vars) v w

-- how many lists have an id
abbrev pub holders : ℕ → List (List ℕ) → ℕ
holders id [] = 0
holders id (list ∷ lists) = (if list_any (λ i. i == id) list then 1 else 0) + holders id lists

-- the room that a core leaves is as many places as there are lists that have it
abbrev pub RoomIsHolders : Type 0
RoomIsHolders = (old : OccurrenceLists) (id : ℕ) → IsOccurrences old
    → times_in_all id old.lists ≡ holders id old.lists

-- how many occurrences there are in all
abbrev pub AddedTotal : Type 0
AddedTotal = (old : OccurrenceLists) (id : ℕ) (vars : List ℕ) → IsStrictlyIncreasing vars
    → All (λ v. (1 ≤ v) × (v ≤ length old.lists)) vars
    → total_length (added old id vars).lists ≡ total_length old.lists + length vars

abbrev pub RemovedTotal : Type 0
RemovedTotal = (old : OccurrenceLists) (id : ℕ) →
    total_length (removed old id).lists + times_in_all id old.lists ≡ total_length old.lists

abbrev pub GrownTotal : Type 0
GrownTotal = (old : OccurrenceLists) (vars ids nodes : ℕ)
    → total_length (grown old vars ids nodes).lists ≡ total_length old.lists
