-- The owner of each node, and the chain of the nodes of each owner.
use Rattle.std.specs.Prelude.{◌≡◌, ◌==◌, ℕ, ◌+◌, ◌<◌, ◌≤◌, ◌^◌, List, [], ◌∷◌}
use Rattle.std.specs.Prelude.{length, map, slice_index, slice_index_or, if◌then◌else◌}
use Rattle.index_ring.specs.Lists.{times}
use Rattle.core_occurrences.specs.declared.chains.Node.{Node}

abbrev pub no_node : Node
no_node = record { owner = 0; next = 0 }

-- the body that a node belongs to, or 0 where it is free
abbrev pub owner_of : List Node → ℕ → ℕ
owner_of nodes v = (slice_index_or nodes v no_node).owner

-- the link behind a node
abbrev pub link_of : List Node → ℕ → ℕ
link_of nodes v = (slice_index_or nodes v no_node).next

-- the owner of each node
abbrev pub owners : List Node → List ℕ
owners nodes = map (λ node. node.owner) nodes

-- links lead through the nodes of a list; a link to a node is its number and 1, and 0 ends a chain
abbrev pub Chain : (ℕ → ℕ) → ℕ → List ℕ → Type 0
Chain next link [] = link ≡ 0
Chain next link (v ∷ list) = (link ≡ v + 1) × Chain next (next v) list

-- by the owner of each node, the link behind it and the first link of each owner: from this, a chain leads through the
-- nodes of the owner, each once, and no others
pub record IsChained (owner next head : ℕ → ℕ) (count heads : ℕ) : Type 0 where
  pub own : ℕ → List ℕ
  pub linked : (i : ℕ) → i < heads → Chain next (head i) (own i)
  pub once : (i v : ℕ) → i < heads → v < count → times v (own i) ≡ (if owner v == i then 1 else 0)
  pub inside : (i v : ℕ) → i < heads → count ≤ v → times v (own i) ≡ 0
  pub known : (v : ℕ) → v < count → owner v < heads
  pub small : count < 2 ^ 31

-- the nodes of each owner are a chain, from its head on
abbrev pub AreChains : List Node → List ℕ → Type 0
AreChains nodes heads = IsChained (owner_of nodes) (link_of nodes) (slice_index heads) (length nodes) (length heads)

-- a node of one owner belongs to another now
pub record IsPassed (old new : List Node) (from to v : ℕ) : Type 0 where
  pub inside : v < length old
  pub was : owner_of old v ≡ from
  pub owner : (w : ℕ) → owner_of new w ≡ (if w == v then to else owner_of old w)
  pub count : (i : ℕ) → times i (owners new) + (if from == i then 1 else 0)
      ≡ times i (owners old) + (if to == i then 1 else 0)

-- an owner has no node
pub record OwnsNone (old new : List Node) (from : ℕ) : Type 0 where
  pub none : times from (owners old) ≡ 0
  pub same : new ≡ old

-- so many free nodes are added
pub record IsFreed (old new : List Node) (more : ℕ) : Type 0 where
  pub owner : (w : ℕ) → owner_of new w ≡ owner_of old w
  pub count : length new ≡ length old + more
  pub free : times 0 (owners new) ≡ times 0 (owners old) + more
