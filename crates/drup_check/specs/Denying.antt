-- How a store stands while the literals of a clause are denied.
use Rattle.std.specs.Prelude.{◌≡◌, ◌⊎◌, ◌<◌, ◌≤◌, ℕ, Bool, true, false, List, Contains, Some}
use Rattle.std.specs.Prelude.{None, get_or}
use Rattle.order_ints.specs.declared.literal.Lit.{Lit}
use Rattle.order_ints.specs.Truth.{not_lit}
use Rattle.literal_trail.specs.declared.entry.Entry.{Entry}
use Rattle.literal_trail.specs.Trail.{truth_in, up_to}
use Rattle.literal_trail.specs.Standing.{IsFalse}
use Rattle.clause_arena.specs.Clauses.{IsLive, lits_of}
use Rattle.clause_rings.specs.Clauses.{ClauseLists, SameClauses, IsComplete}

-- the negation of one of the literals
pub record IsNegation (lits : List Lit) (l : Lit) : Type 0 where
  pub lit : Lit
  pub is_in : Contains lits lit
  pub negates : l ≡ not_lit lit

-- The clauses are the same, and the trail is longer by negations of the literals, which are decided, and by what
-- follows from these.
pub record Denying (lits : List Lit) (old new : ClauseLists) : Type 0 where
  pub clauses : SameClauses old.clauses new.clauses
  pub vars : new.trail.vars ≡ old.trail.vars
  pub front : up_to 0 new.trail.entries ≡ up_to 0 old.trail.entries
  pub level : old.trail.level ≤ new.trail.level
  pub truths : (l : Lit) (b : Bool) → truth_in old.trail.entries l ≡ Some b
      → truth_in new.trail.entries l ≡ Some b
  pub decided : (e : Entry) → Contains new.trail.entries e → e.reason ≡ None → Contains old.trail.entries e
      ⊎ IsNegation lits e.lit

-- a clause of the store is false
pub record HasConflict (s : ClauseLists) : Type 0 where
  pub reference : ℕ
  pub live : IsLive s.clauses reference
  pub is_false : IsFalse s.trail.entries (lits_of s.clauses reference)

-- one of the literals is true
pub record HasTrueOne (lits : List Lit) (s : ClauseLists) : Type 0 where
  pub lit : Lit
  pub is_in : Contains lits lit
  pub is_true : truth_in s.trail.entries lit ≡ Some true

-- where literals are denied, one is true or a clause is false; or all are false, and no clause is false or unit
abbrev pub DenialOf : List Lit → ClauseLists → Bool → Type 0
DenialOf lits s true = HasTrueOne lits s ⊎ HasConflict s
DenialOf lits s false = IsFalse s.trail.entries lits × IsComplete s.trail.entries s.clauses

-- the first literals, so many, are false
abbrev pub AreFalseBefore : List Lit → ClauseLists → ℕ → Type 0
AreFalseBefore lits s n = (l : Lit) (j : ℕ) → j < n → get_or lits j l ≡ l
    → truth_in s.trail.entries l ≡ Some false
