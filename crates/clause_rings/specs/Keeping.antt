-- What a clause store keeps, and how far propagation has taken it.
use Rattle.std.specs.Prelude.{◌≡◌, ◌==◌, ℕ, ◌+◌, ◌*◌, ◌/◌, ◌<◌, List, [], ◌∷◌, Option}
use Rattle.std.specs.Prelude.{Some, None, ◌⊎◌, if◌then◌else◌}
use Rattle.order_ints.specs.Truth.{not_lit}
use Rattle.literal_trail.specs.Trail.{entry_at}
use Rattle.literal_trail.specs.Standing.{HasTrue, IsFalse}
use Rattle.clause_arena.specs.Clauses.{IsLive, lits_of}
use Rattle.clause_arena.specs.Codes.{code_of}
use Rattle.index_ring.specs.Lists.{list_of, without, Stands}
use Rattle.clause_rings.specs.Clauses.{ClauseLists, SameClauses, Follows}
use Rattle.clause_rings.specs.Watches.{Blocks, IsKept}
use Rattle.clause_rings.specs.declared.watches.Watches.{Watches}

-- what belongs together does
abbrev pub Keeps : Watches → Type 0
Keeps w = IsKept w.arena.clauses w.trail w.rings w.blockers.items w.head

-- what contracts see
abbrev pub seen : Watches → ClauseLists
seen w = record {
  clauses = w.arena.clauses;
  trail = w.trail;
  spare_lits = w.arena.spare_lits;
  spare_clauses = w.arena.spare_clauses;
}

-- propagation has put literals of clauses into another order, and literals on the trail, and has left all else
pub record Advances (old new : ClauseLists) : Type 0 where
  pub clauses : SameClauses old.clauses new.clauses
  pub trail : Follows new.clauses old.trail new.trail
  pub spare_lits : new.spare_lits ≡ old.spare_lits
  pub spare_clauses : new.spare_clauses ≡ old.spare_clauses

-- the ring of the literal that the entry at the head makes false
abbrev pub head_ring : Watches → ℕ
head_ring w = code_of (not_lit (entry_at w.trail.entries w.head).lit)

-- a clause that is there, and false
abbrev pub IsConflict : Watches → ℕ → Type 0
IsConflict w c = IsLive w.arena.clauses c × IsFalse w.trail.entries (lits_of w.arena.clauses c)

-- a clause has a literal that is true by the level of the entry at the head
abbrev pub IsMet : Watches → ℕ → Type 0
IsMet w c = HasTrue w.trail.entries (lits_of w.arena.clauses c) (entry_at w.trail.entries w.head).level

-- a node stays in the ring that is walked, and its clause has a true literal; or it has left the ring
abbrev pub IsVisited : Watches → Watches → ℕ → Type 0
IsVisited old new node = ((list_of new.rings (head_ring old) ≡ list_of old.rings (head_ring old))
    × IsMet new (node / 2))
    ⊎ (list_of new.rings (head_ring old) ≡ without node (list_of old.rings (head_ring old)))

-- each clause that watches the literal which the entry at the head makes false has a true literal
abbrev pub AreMet : Watches → Type 0
AreMet w = (c i : ℕ) → i < 2 → Stands w.rings (head_ring w) (2 * c + i) → IsMet w c

-- the number is a blocker of the node's clause
abbrev pub IsBlocker : Watches → Option ℕ → ℕ → Type 0
IsBlocker w at blocker = (v : ℕ) → at ≡ Some v → Blocks (lits_of w.arena.clauses (v / 2)) blocker
