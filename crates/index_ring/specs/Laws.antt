-- Laws of lists of nodes.
use Rattle.std.specs.Prelude.{◌≡◌, ◌≢◌, ℕ, zero, suc, ◌+◌, ◌<◌, ◌≤◌, List, [], ◌∷◌}
use Rattle.std.specs.Prelude.{◌++◌, length, Option, Some, None, ◌↔◌}
use Rattle.index_ring.specs.Lists.{RingLists, IsRings, IsFree, Stands, list_of, times, with_list, unlinked, first_in}
use Rattle.index_ring.specs.Lists.{after_in}

-- the lengths of all lists together
abbrev pub total_length : List (List ℕ) → ℕ
total_length [] = 0
total_length (list ∷ lists) = length list + total_length lists

-- a node stands in one ring at most, and there at one place
abbrev pub StandsOnce : Type 0
StandsOnce = (rings : RingLists) (r s v : ℕ) → IsRings rings → Stands rings r v → (Stands rings s v → s ≡ r)
    × (times v (list_of rings r) ≡ 1)

-- a node is free exactly where it stands in no ring
abbrev pub FreeExactly : Type 0
FreeExactly = (rings : RingLists) (v : ℕ) → IsFree rings v ↔ ((r : ℕ) → ¬ Stands rings r v)

-- all lists together are no longer than there are nodes
abbrev pub LengthsFit : Type 0
LengthsFit = (rings : RingLists) → IsRings rings → total_length rings.lists ≤ rings.nodes

-- behind the nodes that a walk has met comes the first of those that are left
abbrev pub WalkMeets : Type 0
WalkMeets = (rings : RingLists) (r v : ℕ) (met left : List ℕ) → IsRings rings
    → list_of rings r ≡ met ++ v ∷ left → after_in v (list_of rings r) ≡ first_in left

-- what a walk through a list meets, from a node or none on, in so many steps at most
abbrev pub walk_from : List ℕ → Option ℕ → ℕ → List ℕ
walk_from list None most = []
walk_from list (Some v) zero = []
walk_from list (Some v) (suc most) = v ∷ walk_from list (after_in v list) most

-- a walk from the first node on meets the list, and ends behind it
abbrev pub WalkIsList : Type 0
WalkIsList = (rings : RingLists) (r most : ℕ) → IsRings rings → length (list_of rings r) ≤ most
    → walk_from (list_of rings r) (first_in (list_of rings r)) most ≡ list_of rings r

-- the nodes around the one that is taken out become neighbours
abbrev pub UnlinkCloses : Type 0
UnlinkCloses = (rings : RingLists) (r v : ℕ) (front back : List ℕ) → IsRings rings → r < length rings.lists
    → list_of rings r ≡ front ++ v ∷ back → list_of (unlinked rings v) r ≡ front ++ back

-- a move of a node from ring r to ring s, which gets whatever list, changes the lists of these two alone
abbrev pub OthersStay : Type 0
OthersStay = (rings : RingLists) (r s q v : ℕ) (list : List ℕ) → IsRings rings → Stands rings r v → q ≢ r
    → q ≢ s → list_of (with_list (unlinked rings v) s list) q ≡ list_of rings q
