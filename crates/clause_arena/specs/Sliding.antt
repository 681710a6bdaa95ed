-- What sliding down leaves of the literals.
use Rattle.std.specs.Prelude.{◌≡◌, ℕ, ◌+◌, ◌<◌, ◌≤◌, List, length, slice_index}
use Rattle.index_ring.specs.Lists.{times}
use Rattle.clause_arena.specs.declared.codes.Span.{Span}
use Rattle.clause_arena.specs.Codes.{span_of, lits_at}

-- so many numbers stand at another place too, and the others stay
pub record IsMoved (old new : List ℕ) (start to len : ℕ) : Type 0 where
  pub count : length new ≡ length old
  pub moved : (k : ℕ) → k < len → slice_index new (to + k) ≡ slice_index old (start + k)
  pub below : (k : ℕ) → k < to → slice_index new k ≡ slice_index old k
  pub above : (k : ℕ) → to + len ≤ k → slice_index new k ≡ slice_index old k

-- each listed clause has the literals that it had
pub record AreSlid (codes : List ℕ) (spans : List Span) (codes1 : List ℕ) (spans1 : List Span) (list : List ℕ)
    : Type 0 where
  pub codes_length : length codes1 ≡ length codes
  pub spans_length : length spans1 ≡ length spans
  pub lits : (c : ℕ) → 1 ≤ times c list → lits_at codes1 (span_of spans1 c) ≡ lits_at codes (span_of spans c)
