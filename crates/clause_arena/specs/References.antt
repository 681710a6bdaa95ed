-- References that are added.
use Rattle.std.specs.Prelude.{◌≡◌, ℕ, ◌+◌, ◌<◌, ◌≤◌, List, ◌++◌, length, replicate}
use Rattle.std.specs.List.{range_with_len}
use Rattle.index_ring.specs.Lists.{RingLists, IsRings, list_of, times_in_all}
use Rattle.clause_arena.specs.declared.codes.Span.{Span}
use Rattle.clause_arena.specs.Codes.{no_span}

-- each node below the first ones stands in a ring, and each other one is free
pub record AreListed (order : RingLists) (first : ℕ) : Type 0 where
  pub below : (c : ℕ) → c < first → times_in_all c order.lists ≡ 1
  pub behind : (c : ℕ) → first ≤ c → times_in_all c order.lists ≡ 0

-- so many references that are not in use stand behind the others
pub record AreAdded (order : RingLists) (spans : List Span) (ids : List ℕ) (order1 : RingLists) (spans1 : List Span)
    (ids1 : List ℕ) (more : ℕ) : Type 0 where
  pub spans_added : spans1 ≡ spans ++ replicate more no_span
  pub ids_added : ids1 ≡ ids ++ replicate more 0
  pub in_use : list_of order1 0 ≡ list_of order 0
  pub others : list_of order1 1 ≡ list_of order 1 ++ range_with_len order.nodes more
  pub two : length order1.lists ≡ 2
  pub nodes : order1.nodes ≡ order.nodes + more
  pub listed : AreListed order1 (order.nodes + more)
  pub rings : IsRings order1
