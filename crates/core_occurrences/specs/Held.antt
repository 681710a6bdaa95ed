-- Rings of nodes, as the lists of the nodes' owners.
use Rattle.std.specs.Prelude.{◌≡◌, ◌==◌, ℕ, ◌+◌, ◌-◌, ◌<◌, List, [], ◌∷◌, ◌++◌}
use Rattle.std.specs.Prelude.{length, map, slice_index_or, slice_set, if◌then◌else◌}
use Rattle.index_ring.specs.Lists.{RingLists, IsRings, times, times_in_all, without}
use Rattle.core_occurrences.specs.declared.chains.Node.{Node}
use Rattle.core_occurrences.specs.Chains.{owner_of, owners}

-- the owners of the nodes of each list
abbrev pub ids_in : List Node → RingLists → List (List ℕ)
ids_in nodes rings = map (map (owner_of nodes)) rings.lists

-- a node stands in a ring exactly where it isn't free
pub record IsHeld (nodes : List Node) (rings : RingLists) : Type 0 where
  pub stand : IsRings rings
  pub count : rings.nodes ≡ length nodes
  pub owned : (v : ℕ) → v < length nodes → times_in_all v rings.lists ≡ (if owner_of nodes v == 0 then 0 else 1)

-- a variable has one occurrence more
pub record IsLinked (nodes : List Node) (rings : RingLists) (nodes1 : List Node) (rings1 : RingLists) (id v : ℕ)
    : Type 0 where
  pub held : IsHeld nodes1 rings1
  pub ids : ids_in nodes1 rings1 ≡ slice_set (ids_in nodes rings) (v - 1)
      (slice_index_or (ids_in nodes rings) (v - 1) [] ++ id ∷ [])
  pub free : times 0 (owners nodes1) + 1 ≡ times 0 (owners nodes)

-- one occurrence of a core has gone
pub record IsUnlinked (nodes : List Node) (rings : RingLists) (nodes1 : List Node) (rings1 : RingLists) (id : ℕ)
    : Type 0 where
  pub held : IsHeld nodes1 rings1
  pub others : map (without id) (ids_in nodes1 rings1) ≡ map (without id) (ids_in nodes rings)
  pub fewer : times_in_all id (ids_in nodes1 rings1) + 1 ≡ times_in_all id (ids_in nodes rings)
  pub free : times 0 (owners nodes1) ≡ times 0 (owners nodes) + 1

-- a core has no occurrence
pub record HasNone (nodes : List Node) (rings : RingLists) (nodes1 : List Node) (rings1 : RingLists) (id : ℕ)
    : Type 0 where
  pub none : times_in_all id (ids_in nodes rings) ≡ 0
  pub same_nodes : nodes1 ≡ nodes
  pub same_rings : rings1 ≡ rings
