-- What contracts see of occurrences: for each variable the ids of the cores that it occurs in, or, where occurrences
-- stand with bodies, the bodies.
use Rattle.std.specs.Prelude.{◌==◌, ℕ, ◌+◌, ◌-◌, ◌^◌, ◌<◌, ◌≤◌, List, [], ◌∷◌}
use Rattle.std.specs.Prelude.{◌++◌, length, map, replicate, slice_index_or, if◌then◌else◌}
use Rattle.std.specs.List.{Contains, list_any}
use Rattle.index_ring.specs.Lists.{times, times_in_all, without}
use Rattle.index_ring.specs.Laws.{total_length}

-- a list of ids for each variable, that of variable 1 first; how many ids there is a place for; how many occurrences
-- more there is room for
pub record OccurrenceLists : Type 0 where
  pub lists : List (List ℕ)
  pub ids : ℕ
  pub room : ℕ

-- the ids of the cores that a variable occurs in
abbrev pub cores_at : OccurrenceLists → ℕ → List ℕ
cores_at occurs v = slice_index_or occurs.lists (v - 1) []

-- the variable occurs in the core
abbrev pub Occurs : OccurrenceLists → ℕ → ℕ → Type 0
Occurs occurs v id = Contains (cores_at occurs v) id

-- a core stands in a list once at most, and only cores that there is a place for; variables, occurrences and room
-- together are less than 2 ^ 31
pub record IsOccurrences (occurs : OccurrenceLists) : Type 0 where
  pub once : (v id : ℕ) → times id (cores_at occurs v) ≤ 1
  pub inside : (v id : ℕ) → Occurs occurs v id → (1 ≤ id) × (id ≤ occurs.ids)
  pub small : length occurs.lists + (total_length occurs.lists + occurs.room) < 2 ^ 31

-- as many variables that occur in no core
abbrev pub no_occurrences : ℕ → OccurrenceLists
no_occurrences vars = record { lists = replicate vars []; ids = 0; room = 0 }

-- further variables that occur in no core, further ids, and room for further occurrences
abbrev pub grown : OccurrenceLists → ℕ → ℕ → ℕ → OccurrenceLists
grown old vars ids nodes = record {
  lists = old.lists ++ replicate vars [];
  ids = old.ids + ids;
  room = old.room + nodes;
}

-- lists of variables from `first` on, where those of the listed variables have the id behind what they had
abbrev pub with_id : ℕ → List ℕ → ℕ → List (List ℕ) → List (List ℕ)
with_id id vars first [] = []
with_id id vars first (list ∷ lists) =
    (if list_any (λ v. v == first) vars then list ++ id ∷ [] else list) ∷ with_id id vars (first + 1) lists

-- the core has come, with an occurrence of each of these variables
abbrev pub added : OccurrenceLists → ℕ → List ℕ → OccurrenceLists
added old id vars = record { lists = with_id id vars 1 old.lists; ids = old.ids; room = old.room - length vars }

-- the core has gone, and there is room for as many occurrences more as it had
abbrev pub removed : OccurrenceLists → ℕ → OccurrenceLists
removed old id = record {
  lists = map (without id) old.lists;
  ids = old.ids;
  room = old.room + times_in_all id old.lists;
}
