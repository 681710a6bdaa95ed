-- How an arena stands for clauses: ring 0 has the references in use, in the order of their literals, ring 1 the others.
use Rattle.std.specs.Prelude.{◌≡◌, ◌==◌, ℕ, ◌+◌, ◌<◌, ◌≤◌, ◌^◌, List, [], ◌∷◌}
use Rattle.std.specs.Prelude.{length, map, slice_index, if◌then◌else◌, Bool, true, false, slice_index_or}
use Rattle.std.specs.List.{range_with_len}
use Rattle.index_ring.specs.Lists.{RingLists, IsRings, list_of, times, times_in_all}
use Rattle.clause_arena.specs.declared.codes.Span.{Span}
use Rattle.clause_arena.specs.Clauses.{Clause, Arena, no_clause, live_clause}
use Rattle.clause_arena.specs.Codes.{span_of, lits_at}

-- the clause of a reference
abbrev pub clause_of : List ℕ → List Span → List ℕ → RingLists → ℕ → Clause
clause_of codes spans ids order c = if times c (list_of order 0) == 0 then no_clause
    else live_clause (slice_index ids c) (lits_at codes (span_of spans c))

abbrev pub arena_of : List ℕ → List Span → List ℕ → RingLists → ℕ → ℕ → Arena
arena_of codes spans ids order spare dead = record {
  clauses = map (clause_of codes spans ids order) (range_with_len 0 (length spans));
  spare_lits = spare;
  spare_clauses = dead;
}

-- from a place to another, the literals of each clause stand behind those of the one before
abbrev pub AreLaid : List Span → ℕ → List ℕ → ℕ → Type 0
AreLaid spans from [] to = from ≤ to
AreLaid spans from (c ∷ cs) to = (from ≤ (span_of spans c).start)
    × AreLaid spans ((span_of spans c).start + (span_of spans c).len) cs to

-- what an arena keeps
pub record IsKept (codes : List ℕ) (spans : List Span) (ids : List ℕ) (order : RingLists)
    (spare dead capacity : ℕ) : Type 0 where
  pub rings : IsRings order
  pub two : length order.lists ≡ 2
  pub nodes : order.nodes ≡ length spans
  pub ids_length : length ids ≡ length spans
  pub each : (c : ℕ) → c < length spans → times_in_all c order.lists ≡ 1
  pub laid : AreLaid spans 0 (list_of order 0) (length codes)
  pub others : dead ≡ length (list_of order 1)
  pub room : length codes + spare ≤ capacity
  pub small : length codes + spare < 2 ^ 32

-- a mark for each reference says whether it is in use
pub record AreMarked (marks : List Bool) (order : RingLists) : Type 0 where
  pub count : length marks ≡ order.nodes
  pub in_use : (c : ℕ) → slice_index_or marks c false ≡ true → 1 ≤ times c (list_of order 0)
  pub marked : (c : ℕ) → 1 ≤ times c (list_of order 0) → slice_index_or marks c false ≡ true
