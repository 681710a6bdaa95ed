-- What occurrences keep beside their lists.
use Rattle.std.specs.Prelude.{◌≡◌, ℕ, ◌+◌, ◌-◌, ◌^◌, ◌≤◌, List, [], ◌∷◌, length, Option}
use Rattle.std.specs.Prelude.{Some, None, if◌then◌else◌, ◌==◌, IfSome}
use Rattle.index_ring.specs.Lists.{RingLists, Stands, times}
use Rattle.index_ring.specs.Laws.{total_length}
use Rattle.core_occurrences.specs.declared.chains.Node.{Node}
use Rattle.core_occurrences.specs.Lists.{OccurrenceLists, IsOccurrences}
use Rattle.core_occurrences.specs.Chains.{AreChains, owners}
use Rattle.core_occurrences.specs.Held.{IsHeld, ids_in}

-- the ring of a variable is that before its number, and owner 0 is no core
abbrev pub lists_of : RingLists → List Node → List ℕ → ℕ → OccurrenceLists
lists_of rings nodes heads room = record { lists = ids_in nodes rings; ids = length heads - 1; room = room }

-- a chain of nodes for each core, a ring for each variable, and how many nodes are free
pub record IsKept (rings : RingLists) (nodes : List Node) (heads : List ℕ) (room : ℕ) : Type 0 where
  pub chains : AreChains nodes heads
  pub held : IsHeld nodes rings
  pub some_head : 1 ≤ length heads
  pub few_heads : length heads ≤ 2 ^ 32
  pub free : room ≡ times 0 (owners nodes)
  pub total : total_length (ids_in nodes rings) + room ≡ length nodes
  pub listed : IsOccurrences (lists_of rings nodes heads room)

-- the members of a list from a node on
abbrev pub from_node : ℕ → List ℕ → List ℕ
from_node v [] = []
from_node v (w ∷ list) = if w == v then w ∷ list else from_node v list

-- what is left of a walk that is at a node, or at the end
abbrev pub left_of : Option ℕ → List ℕ → List ℕ
left_of None list = []
left_of (Some v) list = from_node v list

-- a walk is at a node of its ring, or at the end
pub record IsWalking (nodes : List Node) (rings : RingLists) (ring : ℕ) (next : Option ℕ) : Type 0 where
  pub held : IsHeld nodes rings
  pub stands : IfSome next (Stands rings ring)
