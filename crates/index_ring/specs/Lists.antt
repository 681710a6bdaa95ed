-- What contracts see of rings: the list of each, and the number of nodes.
use Rattle.std.specs.Prelude.{◌≡◌, ◌==◌, ℕ, ◌+◌, ◌<◌, ◌≤◌, ◌^◌, List, [], ◌∷◌}
use Rattle.std.specs.Prelude.{◌++◌, length, map, replicate, slice_index_or, slice_set, Option, Some, None}
use Rattle.std.specs.Prelude.{if◌then◌else◌}

-- a list of nodes for each ring, and how many nodes there are
pub record RingLists : Type 0 where
  pub lists : List (List ℕ)
  pub nodes : ℕ

-- the list of a ring
abbrev pub list_of : RingLists → ℕ → List ℕ
list_of rings r = slice_index_or rings.lists r []

-- how often a node stands in a list
abbrev pub times : ℕ → List ℕ → ℕ
times v [] = 0
times v (w ∷ list) = (if w == v then 1 else 0) + times v list

-- how often a node stands in all lists together
abbrev pub times_in_all : ℕ → List (List ℕ) → ℕ
times_in_all v [] = 0
times_in_all v (list ∷ lists) = times v list + times_in_all v lists

-- no list has the node
abbrev pub IsFree : RingLists → ℕ → Type 0
IsFree rings v = times_in_all v rings.lists ≡ 0

-- the node stands in the list of the ring
abbrev pub Stands : RingLists → ℕ → ℕ → Type 0
Stands rings r v = 1 ≤ times v (list_of rings r)

-- at most 2 ^ 31 - 1 rings and nodes together; no node stands twice, and what stands is a node
pub record IsRings (rings : RingLists) : Type 0 where
  pub small : length rings.lists + rings.nodes < 2 ^ 31
  pub once : (v : ℕ) → times_in_all v rings.lists ≤ 1
  pub inside : (v : ℕ) → rings.nodes ≤ v → times_in_all v rings.lists ≡ 0

-- as many empty rings and free nodes
abbrev pub no_lists : ℕ → ℕ → RingLists
no_lists rings nodes = record { lists = replicate rings []; nodes = nodes }

-- so many empty rings and free nodes more
abbrev pub grown : RingLists → ℕ → ℕ → RingLists
grown old rings nodes = record { lists = old.lists ++ replicate rings []; nodes = old.nodes + nodes }

-- one ring has another list
abbrev pub with_list : RingLists → ℕ → List ℕ → RingLists
with_list rings r list = record { lists = slice_set rings.lists r list; nodes = rings.nodes }

-- the node is the last of the ring
abbrev pub pushed_back : RingLists → ℕ → ℕ → RingLists
pushed_back rings r v = with_list rings r (list_of rings r ++ v ∷ [])

-- the node is the first of the ring
abbrev pub pushed_front : RingLists → ℕ → ℕ → RingLists
pushed_front rings r v = with_list rings r (v ∷ list_of rings r)

-- a list without a node
abbrev pub without : ℕ → List ℕ → List ℕ
without v [] = []
without v (w ∷ list) = if w == v then without v list else w ∷ without v list

-- the node is free, and every list keeps its other nodes
abbrev pub unlinked : RingLists → ℕ → RingLists
unlinked rings v = record { lists = map (without v) rings.lists; nodes = rings.nodes }

-- the list of `into` is followed by that of `from`, which is empty now
abbrev pub spliced : RingLists → ℕ → ℕ → RingLists
spliced rings from into = with_list (with_list rings into (list_of rings into ++ list_of rings from)) from []

-- a list from a node on, and nothing from no node on
abbrev pub rest_from : Option ℕ → List ℕ → List ℕ
rest_from None list = []
rest_from (Some v) [] = []
rest_from (Some v) (w ∷ list) = if w == v then w ∷ list else rest_from (Some v) list

-- the first node of a list
abbrev pub first_in : List ℕ → Option ℕ
first_in [] = None
first_in (w ∷ list) = Some w

-- the node behind v in a list
abbrev pub after_in : ℕ → List ℕ → Option ℕ
after_in v [] = None
after_in v (w ∷ list) = if w == v then first_in list else after_in v list
