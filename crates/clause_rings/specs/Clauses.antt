-- What contracts see of a clause store: clauses by number, the trail, and which clauses are false or unit under it.
use Rattle.std.specs.Prelude.{◌≡◌, ◌≢◌, ℕ, ◌+◌, ◌-◌, ◌<◌, ◌≤◌, false, List, []}
use Rattle.std.specs.Prelude.{◌∷◌, ◌++◌, length, replicate, slice_index_or, slice_set, Contains, Option, Some}
use Rattle.std.specs.Prelude.{None, ◌⊎◌, IsPermutation}
use Rattle.order_ints.specs.declared.literal.Lit.{Lit}
use Rattle.order_ints.specs.Place.{LitBelow}
use Rattle.literal_trail.specs.declared.entry.Entry.{Entry}
use Rattle.order_ints.specs.declared.cnf.Cnf.{Cnf}
use Rattle.literal_trail.specs.Trail.{Trail, IsTrail, entry_at, entry_of, truth_in, up_to, implied, chosen}
use Rattle.literal_trail.specs.Standing.{IsUnit, IsQuiet}
use Rattle.clause_arena.specs.Clauses.{Clause, no_clause, live_clause, clause_at, IsLive, lits_of, lit_in}

-- clauses by number, the trail, and for how many literals and clauses there is room
pub record ClauseLists : Type 0 where
  pub clauses : List Clause
  pub trail : Trail
  pub spare_lits : ℕ
  pub spare_clauses : ℕ

-- no live clause is false or unit
abbrev pub IsComplete : List Entry → List Clause → Type 0
IsComplete es cs = (c : ℕ) → IsLive cs c → IsQuiet es (lits_of cs c)

-- at the end of each level below the current one no live clause is false or unit
abbrev pub IsCompleteBelow : Trail → List Clause → Type 0
IsCompleteBelow t cs = (k : ℕ) → k < t.level → IsComplete (up_to k t.entries) cs

-- the same clause, its literals in any order
pub record SameClause (old new : Clause) : Type 0 where
  pub id : new.id ≡ old.id
  pub live : new.live ≡ old.live
  pub lits : IsPermutation old.lits new.lits

-- the same clauses under the same numbers, their literals in any order
pub record SameClauses (old new : List Clause) : Type 0 where
  pub count : length new ≡ length old
  pub each : (c : ℕ) → SameClause (clause_at old c) (clause_at new c)

-- the trail with literals more, each made true by a live clause that was unit for it
pub data Follows (cs : List Clause) (t : Trail) : Trail → Type 0 where
  same : Follows cs t t
  more : (u : Trail) (l : Lit) (c : ℕ) → Follows cs t u → IsLive cs c → IsUnit u.entries (lits_of cs c) l
      → Follows cs t (implied u l c)

-- no variable stands twice in a clause
abbrev pub IsApart : List Lit → Type 0
IsApart ls = (i j : ℕ) → i < length ls → j < length ls → (lit_in ls i).var ≡ (lit_in ls j).var → i ≡ j

-- each literal that a clause made true was free as that clause's other ones were false, and the clause is there
abbrev pub HaveReasons : List Clause → List Entry → Type 0
HaveReasons cs es = (before after : List Entry) (e : Entry) (c : ℕ) → es ≡ before ++ e ∷ after
    → e.reason ≡ Some c → IsLive cs c × IsUnit before (lits_of cs c) e.lit

-- each literal of a live clause is in range
abbrev pub AreInRange : ℕ → List Clause → Type 0
AreInRange vars cs = (c : ℕ) → IsLive cs c → (l : Lit) → Contains (lits_of cs c) l → LitBelow (vars + 1) l

-- no variable stands twice in a live clause
abbrev pub AreApart : List Clause → Type 0
AreApart cs = (c : ℕ) → IsLive cs c → IsApart (lits_of cs c)

-- what holds of the clauses and the trail at each moment
pub record IsDb (cs : List Clause) (t : Trail) : Type 0 where
  pub trail : IsTrail t
  pub in_range : AreInRange t.vars cs
  pub apart : AreApart cs
  pub reasons : HaveReasons cs t.entries
  pub below : IsCompleteBelow t cs

-- the literal is free, true, or false by the current level
abbrev pub IsLate : Trail → Lit → Type 0
IsLate t l = (e : Entry) → entry_of t.entries l.var ≡ Some e → truth_in t.entries l ≡ Some false
    → e.level ≡ t.level

-- two of the literals are free, true or of the current level
pub record HaveTwoLate (t : Trail) (ls : List Lit) : Type 0 where
  pub one : ℕ
  pub other : ℕ
  pub apart : one ≢ other
  pub one_in : one < length ls
  pub other_in : other < length ls
  pub one_late : IsLate t (lit_in ls one)
  pub other_late : IsLate t (lit_in ls other)

-- a clause of these literals may come: at level 0, or where two of them are free, true or of the current level
abbrev pub MayCome : Trail → List Lit → Type 0
MayCome t ls = (t.level ≡ 0) ⊎ HaveTwoLate t ls

-- a clause comes under a reference, and all else stays
abbrev pub with_clause : ClauseLists → ℕ → ℕ → List Lit → ClauseLists
with_clause old c id lits = record {
  clauses = slice_set old.clauses c (live_clause id lits);
  trail = old.trail;
  spare_lits = old.spare_lits - length lits;
  spare_clauses = old.spare_clauses - 1;
}

-- the clause of a reference goes, and all else stays
abbrev pub without_clause : ClauseLists → ℕ → ClauseLists
without_clause old c = record {
  clauses = slice_set old.clauses c no_clause;
  trail = old.trail;
  spare_lits = old.spare_lits;
  spare_clauses = old.spare_clauses + 1;
}

-- a literal is true: for a clause at the current level, or else at a level that it begins
abbrev pub assigned : Trail → Lit → Option ℕ → Trail
assigned t l (Some c) = implied t l c
assigned t l None = chosen t l

-- no literal became true for the clause
abbrev pub IsUnused : List Entry → ℕ → Type 0
IsUnused es c = (j : ℕ) → j < length es → (entry_at es j).reason ≢ Some c

-- the clauses stay under their references, perhaps with more references; the trail stays, and no room is lost
pub record HasRoomMore (old new : ClauseLists) : Type 0 where
  pub more : ℕ
  pub clauses : new.clauses ≡ old.clauses ++ replicate more no_clause
  pub trail : new.trail ≡ old.trail
  pub spare_lits : old.spare_lits ≤ new.spare_lits
  pub spare_clauses : old.spare_clauses ≤ new.spare_clauses

-- no variable stands twice in a clause of the CNF
abbrev pub AreApartIn : Cnf → Type 0
AreApartIn cnf = (k : ℕ) → k < length cnf.clauses → IsApart (slice_index_or cnf.clauses k [])

-- the clauses of a CNF are there, each once and the first one with id 1, and no other clause is
pub record HoldsCnf (cnf : Cnf) (cs : List Clause) : Type 0 where
  pub stored : (k : ℕ) → k < length cnf.clauses → (c : ℕ)
      × (clause_at cs c ≡ live_clause (k + 1) (slice_index_or cnf.clauses k []))
  pub alone : (c : ℕ) → IsLive cs c → (k : ℕ) × (k < length cnf.clauses)
      × (clause_at cs c ≡ live_clause (k + 1) (slice_index_or cnf.clauses k []))
  pub once : (c d : ℕ) → IsLive cs c → IsLive cs d → (clause_at cs c).id ≡ (clause_at cs d).id → c ≡ d
