-- How a clause that waits gets its watches: the two literals of the highest ranks come first, and the first is made
-- true where it has to be.
use Rattle.std.specs.Prelude.{◌≡◌, ◌≢◌, ℕ, ◌+◌, ◌*◌, ◌^◌, ◌<◌, ◌≤◌, false, List}
use Rattle.std.specs.Prelude.{length, Some, ◌⊎◌}
use Rattle.order_ints.specs.declared.literal.Lit.{Lit}
use Rattle.literal_trail.specs.declared.entry.Entry.{Entry}
use Rattle.literal_trail.specs.Trail.{Trail, entry_of, truth_in, implied}
use Rattle.literal_trail.specs.Standing.{HasTrue, IsUnit}
use Rattle.clause_arena.specs.Clauses.{Clause, Arena, clause_at, lits_of, lit_in}
use Rattle.clause_arena.specs.Codes.{code_of}
use Rattle.index_ring.specs.Lists.{RingLists, IsRings, IsFree, Stands, unlinked, pushed_back}
use Rattle.clause_rings.specs.Clauses.{SameClause}
use Rattle.clause_rings.specs.Looks.{rank_of}

-- the first literal has the highest rank, and the second the highest of the others
pub record AreRanked (es : List Entry) (ls : List Lit) : Type 0 where
  pub first : (k : ℕ) → k < length ls → rank_of es (lit_in ls k) ≤ rank_of es (lit_in ls 0)
  pub second : (k : ℕ) → 1 ≤ k → k < length ls → rank_of es (lit_in ls k) ≤ rank_of es (lit_in ls 1)

-- the literals of one clause stand in another order
pub record IsReordered (old new : Arena) (c : ℕ) : Type 0 where
  pub count : length new.clauses ≡ length old.clauses
  pub here : SameClause (clause_at old.clauses c) (clause_at new.clauses c)
  pub others : (d : ℕ) → d ≢ c → clause_at new.clauses d ≡ clause_at old.clauses d
  pub spare_lits : new.spare_lits ≡ old.spare_lits
  pub spare_clauses : new.spare_clauses ≡ old.spare_clauses

-- the first literal isn't false; where the second is, one is true by its level; and where there is no second, the first
-- is true by level 0
pub record IsAttached (es : List Entry) (ls : List Lit) : Type 0 where
  pub first : truth_in es (lit_in ls 0) ≢ Some false
  pub second : (s : Entry) → entry_of es (lit_in ls 1).var ≡ Some s → truth_in es (lit_in ls 1) ≡ Some false
      → 2 ≤ length ls → HasTrue es ls s.level
  pub alone : length ls ≡ 1 → HasTrue es ls 0

-- the trail stays, or the clause has made its first literal true, for which it was unit
abbrev pub IsForced : List Clause → ℕ → Trail → Trail → Type 0
IsForced cs c old new = (new ≡ old)
    ⊎ (IsUnit old.entries (lits_of cs c) (lit_in (lits_of cs c) 0)
    × (new ≡ implied old (lit_in (lits_of cs c) 0) c))

-- there is no second literal, or it is false
abbrev pub IsAlone : List Entry → List Lit → Type 0
IsAlone es ls = (length ls ≡ 1) ⊎ (truth_in es (lit_in ls 1) ≡ Some false)

-- there is a second literal, and it isn't false
abbrev pub HasSecond : List Entry → List Lit → Type 0
HasSecond es ls = (length ls ≢ 1) × (truth_in es (lit_in ls 1) ≢ Some false)

-- the clause doesn't wait any more: its nodes watch its first two literals, or are free where it has one alone
abbrev pub IsLinked : List Lit → RingLists → RingLists → ℕ → Type 0
IsLinked ls old new c = ((length ls ≤ 1) × (new ≡ unlinked old (2 * c)))
    ⊎ ((1 < length ls)
    × (new ≡ pushed_back (pushed_back (unlinked old (2 * c)) (code_of (lit_in ls 0)) (2 * c)) (code_of (lit_in ls 1))
    (2 * c + 1)))

-- what linking needs of the rings: the clause waits by its first node, the second is free, and there are the rings of
-- the first two literals
pub record IsLinkable (ls : List Lit) (rings : RingLists) (c : ℕ) : Type 0 where
  pub made : IsRings rings
  pub waits : Stands rings 0 (2 * c)
  pub free : IsFree rings (2 * c + 1)
  pub node : 2 * c + 1 < rings.nodes
  pub ring : (k : ℕ) → k < length ls → (2 ≤ code_of (lit_in ls k))
      × (code_of (lit_in ls k) < length rings.lists) × ((lit_in ls k).var < 2 ^ 27 + 1)
