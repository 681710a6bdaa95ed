-- Bodies, each of which is the core with one id.
use Rattle.std.specs.Prelude.{◌≡◌, ◌==◌, ℕ, ◌+◌, List, length, map, slice_index_or, if◌then◌else◌}
use Rattle.core_occurrences.specs.Lists.{OccurrenceLists, IsOccurrences}

-- the id of a body, or the body of an id, by the list of all; what has no place in the list has its own number
abbrev pub named_by : List ℕ → ℕ → ℕ
named_by names b = slice_index_or names b b

-- the lists of ids, from those of bodies
abbrev pub named : List ℕ → OccurrenceLists → OccurrenceLists
named cores held = record { lists = map (map (named_by cores)) held.lists; ids = held.ids; room = held.room }

-- each body has an id of its own, and each id a body
pub record AreInverse (bodies cores : List ℕ) : Type 0 where
  pub body : (b : ℕ) → named_by bodies (named_by cores b) ≡ b
  pub core : (id : ℕ) → named_by cores (named_by bodies id) ≡ id
  pub same : length bodies ≡ length cores

-- there is a body for each id that there is a place for; 0 is neither
pub record AreBodies (bodies cores : List ℕ) (held : OccurrenceLists) : Type 0 where
  pub inverse : AreInverse bodies cores
  pub none : named_by cores 0 ≡ 0
  pub count : length cores ≡ held.ids + 1
  pub listed : IsOccurrences held

-- each of two ids for the other
abbrev pub swapped : ℕ → ℕ → ℕ → ℕ
swapped first second id = if id == first then second else if id == second then first else id

-- two ids are exchanged in all lists
abbrev pub exchanged : OccurrenceLists → ℕ → ℕ → OccurrenceLists
exchanged old first second = record {
  lists = map (map (swapped first second)) old.lists;
  ids = old.ids;
  room = old.room;
}
