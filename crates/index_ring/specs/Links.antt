-- How links between places stand for lists.
use Rattle.std.specs.Prelude.{◌≡◌, ◌==◌, ℕ, zero, suc, ◌+◌, ◌-◌, ◌<◌, ◌≤◌, ◌^◌}
use Rattle.std.specs.Prelude.{nat_lt, List, [], ◌∷◌, length, map, slice_index_or, if◌then◌else◌}
use Rattle.std.specs.List.{range_with_len}
use Rattle.index_ring.specs.declared.links.Links.{Links}
use Rattle.index_ring.specs.Lists.{RingLists, list_of, IsFree, IsRings}

-- the place of a ring's sentinel; the places below 2 ^ 31 are nodes
abbrev pub sentinel : ℕ → ℕ
sentinel r = 2 ^ 31 + r

abbrev pub no_links : Links
no_links = record { next = 0; previous = 0 }

-- the place behind a place, by the links of nodes and of sentinels
abbrev pub next_at : List Links → List Links → ℕ → ℕ
next_at nodes rings p = if nat_lt p (2 ^ 31) then (slice_index_or nodes p no_links).next
    else (slice_index_or rings (p - 2 ^ 31) no_links).next

-- the place before a place
abbrev pub previous_at : List Links → List Links → ℕ → ℕ
previous_at nodes rings p = if nat_lt p (2 ^ 31) then (slice_index_or nodes p no_links).previous
    else (slice_index_or rings (p - 2 ^ 31) no_links).previous

-- a node or a sentinel that is there
pub record IsPlace (nodes rings : List Links) (p : ℕ) : Type 0 where
  pub node : p < 2 ^ 31 → p < length nodes
  pub ring : 2 ^ 31 ≤ p → p < 2 ^ 31 + length rings

-- as many places, from `first` on, each its own neighbour
abbrev pub alone : ℕ → ℕ → List Links
alone first zero = []
alone first (suc count) = record { next = first; previous = first } ∷ alone (first + 1) count

-- from a through the places of a list to b, each two are neighbours
abbrev pub Chain : (ℕ → ℕ) → (ℕ → ℕ) → ℕ → List ℕ → ℕ → Type 0
Chain next previous a [] b = (next a ≡ b) × (previous b ≡ a)
Chain next previous a (x ∷ list) b = (next a ≡ x) × (previous x ≡ a) × Chain next previous x list b

-- the nodes behind a place up to a sentinel, so many at most
abbrev pub nodes_behind : (ℕ → ℕ) → ℕ → ℕ → List ℕ
nodes_behind next zero p = []
nodes_behind next (suc most) p = if nat_lt (next p) (2 ^ 31) then next p ∷ nodes_behind next most (next p) else []

-- the lists that links stand for
abbrev pub view_of : List Links → List Links → RingLists
view_of nodes rings = record {
  lists = map (λ r. nodes_behind (next_at nodes rings) (length nodes) (sentinel r)) (range_with_len 0 (length rings));
  nodes = length nodes;
}

-- from each sentinel a chain goes through the list of its ring and back to it, and a free node is its own neighbour
pub record IsLinked (next previous : ℕ → ℕ) (rings : RingLists) : Type 0 where
  pub stand : IsRings rings
  pub linked : (r : ℕ) → r < length rings.lists → Chain next previous (sentinel r) (list_of rings r) (sentinel r)
  pub free : (v : ℕ) → v < rings.nodes → IsFree rings v → next v ≡ v

-- the links are those of the lists that they stand for
abbrev pub IsSound : List Links → List Links → Type 0
IsSound nodes rings = IsLinked (next_at nodes rings) (previous_at nodes rings) (view_of nodes rings)

-- the place behind one place is another now
pub record NextSet (nodes rings nodes_after rings_after : List Links) (a b : ℕ) : Type 0 where
  pub next : (q : ℕ) → next_at nodes_after rings_after q ≡ (if q == a then b else next_at nodes rings q)
  pub previous : (q : ℕ) → previous_at nodes_after rings_after q ≡ previous_at nodes rings q

-- the place before one place is another now
pub record PreviousSet (nodes rings nodes_after rings_after : List Links) (a b : ℕ) : Type 0 where
  pub next : (q : ℕ) → next_at nodes_after rings_after q ≡ next_at nodes rings q
  pub previous : (q : ℕ) → previous_at nodes_after rings_after q
      ≡ (if q == a then b else previous_at nodes rings q)

-- b is behind a now, and a before b
pub record Joined (nodes rings nodes_after rings_after : List Links) (a b : ℕ) : Type 0 where
  pub next : (q : ℕ) → next_at nodes_after rings_after q ≡ (if q == a then b else next_at nodes rings q)
  pub previous : (q : ℕ) → previous_at nodes_after rings_after q
      ≡ (if q == b then a else previous_at nodes rings q)
