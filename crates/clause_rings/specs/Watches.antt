-- How the nodes of rings watch clauses: the clause of number c has the nodes 2c and 2c + 1, and ring 2v + s is that of
-- a literal of variable v.
use Rattle.std.specs.Prelude.{◌≡◌, ◌==◌, ℕ, ◌+◌, ◌*◌, ◌%◌, ◌^◌, ◌<◌, ◌≤◌, if◌then◌else◌, true, false, List, length, Contains}
use Rattle.std.specs.Prelude.{Some, slice_index, take, ◌⊎◌}
use Rattle.order_ints.specs.declared.literal.Lit.{Lit}
use Rattle.literal_trail.specs.declared.entry.Entry.{Entry}
use Rattle.literal_trail.specs.Trail.{Trail, entry_of, entry_at, truth_in}
use Rattle.literal_trail.specs.Standing.{HasTrue}
use Rattle.clause_arena.specs.Clauses.{Clause, IsLive, clause_at, lits_of, lit_in}
use Rattle.clause_arena.specs.Codes.{code_of, lit_of}
use Rattle.index_ring.specs.Lists.{RingLists, IsRings, IsFree, Stands}
use Rattle.clause_rings.specs.Clauses.{IsDb}

-- where an entry that is worked off makes the literal false, a literal of the clause is true by that level
abbrev pub IsGuarded : List Entry → List Entry → List Lit → Lit → Type 0
IsGuarded es done ls w = (s : Entry) → entry_of done w.var ≡ Some s → truth_in done w ≡ Some false
    → HasTrue es ls s.level

-- both nodes of a clause stand in the rings of its first two literals, which are guarded
pub record IsWatched (x : Clause) (rings : RingLists) (es done : List Entry) (c : ℕ) : Type 0 where
  pub live : x.live ≡ true
  pub two : 2 ≤ length x.lits
  pub stands : (i : ℕ) → i < 2 → Stands rings (code_of (lit_in x.lits i)) (2 * c + i)
  pub guarded : (i : ℕ) → i < 2 → IsGuarded es done x.lits (lit_in x.lits i)

-- a clause waits to be watched, by its first node in ring 0
pub record IsWaiting (x : Clause) (rings : RingLists) (c : ℕ) : Type 0 where
  pub live : x.live ≡ true
  pub stands : Stands rings 0 (2 * c)
  pub free : IsFree rings (2 * c + 1)

-- a clause is not there, or true by level 0, and its nodes are free
pub record IsIdle (x : Clause) (rings : RingLists) (es : List Entry) (c : ℕ) : Type 0 where
  pub done : x.live ≡ true → HasTrue es x.lits 0
  pub first : IsFree rings (2 * c)
  pub second : IsFree rings (2 * c + 1)

-- each clause is watched, waits or is idle
abbrev pub IsAttended : Clause → RingLists → List Entry → List Entry → ℕ → Type 0
IsAttended x rings es done c = IsWatched x rings es done c ⊎ (IsWaiting x rings c ⊎ IsIdle x rings es c)

-- the clauses, the trail whose first `head` entries are worked off, and the rings belong together
pub record IsWatching (cs : List Clause) (t : Trail) (rings : RingLists) (head : ℕ) : Type 0 where
  pub made : IsRings rings
  pub ring_count : length rings.lists ≡ 2 * t.vars + 2
  pub node_count : 2 * length cs ≤ rings.nodes
  pub attended : (c : ℕ) → IsAttended (clause_at cs c) rings t.entries (take head t.entries) c
  pub worked : head ≤ length t.entries
  pub late : (j : ℕ) → head ≤ j → j < length t.entries → (entry_at t.entries j).level ≡ t.level

-- the number of a literal, with a mark if it is the blocker of a clause of two literals
abbrev pub marked : Lit → ℕ → ℕ
marked l len = if len == 2 then code_of l + 2 ^ 31 else code_of l

-- the blocker is a literal of the clause, and one with a mark is of a clause of two literals
abbrev pub Blocks : List Lit → ℕ → Type 0
Blocks ls blocker = Contains ls (lit_of (blocker % 2 ^ 31)) × (2 ^ 31 ≤ blocker → length ls ≡ 2)

-- the blockers of both nodes of a clause are literals of it
abbrev pub AreBlockers : List Clause → List ℕ → Type 0
AreBlockers cs blockers = (c i : ℕ) → i < 2 → IsLive cs c → 1 ≤ length (lits_of cs c)
    → Blocks (lits_of cs c) (slice_index blockers (2 * c + i))

-- all that a clause store keeps
pub record IsKept (cs : List Clause) (t : Trail) (rings : RingLists) (blockers : List ℕ) (head : ℕ) : Type 0 where
  pub db : IsDb cs t
  pub watching : IsWatching cs t rings head
  pub blocked : AreBlockers cs blockers
  pub room : 2 * length cs ≤ length blockers
