-- What the moves of nodes leave of rings.
use Rattle.std.specs.Prelude.{◌≡◌, ◌≢◌, false, ℕ, ◌+◌, ◌*◌, ◌<◌, ◌≤◌, List, length}
use Rattle.std.specs.Prelude.{slice_index}
use Rattle.order_ints.specs.declared.literal.Lit.{Lit}
use Rattle.clause_arena.specs.Clauses.{Clause, clause_at, live_clause}
use Rattle.index_ring.specs.Lists.{RingLists, IsFree, Stands, unlinked, pushed_back}
use Rattle.clause_rings.specs.Watches.{Blocks}

-- both nodes of a clause have left their rings, and the first one is in ring 0
abbrev pub IsParked : RingLists → RingLists → ℕ → Type 0
IsParked old new c = new ≡ pushed_back (unlinked (unlinked old (2 * c)) (2 * c + 1)) 0 (2 * c)

-- a node is free, and all others are as they were
pub record IsReleased (old new : RingLists) (v : ℕ) : Type 0 where
  pub free : IsFree new v
  pub others : (w q : ℕ) → w ≢ v → Stands old q w → Stands new q w
  pub still_free : (w : ℕ) → w ≢ v → IsFree old w → IsFree new w
  pub count : length new.lists ≡ length old.lists
  pub nodes : new.nodes ≡ old.nodes

-- the blockers of two nodes are literals of a clause, if it has any, and all others stay
pub record AreSet (old new : List ℕ) (node : ℕ) (ls : List Lit) : Type 0 where
  pub count : length new ≡ length old
  pub here : (i : ℕ) → i < 2 → 1 ≤ length ls → Blocks ls (slice_index new (node + i))
  pub others : (n : ℕ) → n ≢ node → n ≢ node + 1 → slice_index new n ≡ slice_index old n

-- the same lists, and perhaps more nodes
pub record HasNodesMore (old new : RingLists) : Type 0 where
  pub lists : new.lists ≡ old.lists
  pub nodes : old.nodes ≤ new.nodes

-- the same numbers, and perhaps more of them
pub record HasMore (old new : List ℕ) : Type 0 where
  pub count : length old ≤ length new
  pub same : (n : ℕ) → n < length old → slice_index new n ≡ slice_index old n

-- a clause has come under a reference that was not in use, and all others are as they were
pub record IsNext (old new : List Clause) (id : ℕ) (lits : List Lit) : Type 0 where
  pub reference : ℕ
  pub dead : (clause_at old reference).live ≡ false
  pub here : clause_at new reference ≡ live_clause id lits
  pub others : (d : ℕ) → d ≢ reference → clause_at new d ≡ clause_at old d
