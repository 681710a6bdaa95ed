-- What contracts see of an arena: a clause for each reference, and how much is spare.
use Rattle.std.specs.Prelude.{◌≡◌, ℕ, ◌+◌, ◌-◌, ◌<◌, ◌≤◌, ◌^◌, Bool, true, false, List}
use Rattle.std.specs.Prelude.{[], ◌++◌, length, replicate, swap, slice_index_or, slice_set}
use Rattle.order_ints.specs.declared.literal.Lit.{Lit}

-- a clause with its id; under a reference that is not in use stands `no_clause`, which is not live
pub record Clause : Type 0 where
  pub id : ℕ
  pub live : Bool
  pub lits : List Lit

abbrev pub no_clause : Clause
no_clause = record { id = 0; live = false; lits = [] }

abbrev pub live_clause : ℕ → List Lit → Clause
live_clause id lits = record { id = id; live = true; lits = lits }

-- the clause of each reference that there is room for, how many literals there is room for, and how many clauses
pub record Arena : Type 0 where
  pub clauses : List Clause
  pub spare_lits : ℕ
  pub spare_clauses : ℕ

-- the clause of a reference
abbrev pub clause_at : List Clause → ℕ → Clause
clause_at clauses c = slice_index_or clauses c no_clause

-- there is a clause of this reference
abbrev pub IsLive : List Clause → ℕ → Type 0
IsLive clauses c = (clause_at clauses c).live ≡ true

abbrev pub lits_of : List Clause → ℕ → List Lit
lits_of clauses c = (clause_at clauses c).lits

abbrev pub no_lit : Lit
no_lit = record { var = 0; positive = false }

-- the literal at a place of a clause
abbrev pub lit_in : List Lit → ℕ → Lit
lit_in lits k = slice_index_or lits k no_lit

-- no clause, and no room
abbrev pub no_clauses : Arena
no_clauses = record { clauses = []; spare_lits = 0; spare_clauses = 0 }

-- a clause comes under a reference, and all other references stay
abbrev pub added : Arena → ℕ → ℕ → List Lit → Arena
added old c id lits = record {
  clauses = slice_set old.clauses c (live_clause id lits);
  spare_lits = old.spare_lits - length lits;
  spare_clauses = old.spare_clauses - 1;
}

-- the clause of a reference goes, and all other references stay
abbrev pub deleted : Arena → ℕ → Arena
deleted old c = record {
  clauses = slice_set old.clauses c no_clause;
  spare_lits = old.spare_lits;
  spare_clauses = old.spare_clauses + 1;
}

-- two literals of a clause change places, and all other references stay
abbrev pub swapped : Arena → ℕ → ℕ → ℕ → Arena
swapped old c i j = record {
  clauses = slice_set old.clauses c (live_clause (clause_at old.clauses c).id (swap (lits_of old.clauses c) i j));
  spare_lits = old.spare_lits;
  spare_clauses = old.spare_clauses;
}

-- the clauses stay under their references, perhaps with more references, and no room is lost
pub record IsWider (old new : Arena) : Type 0 where
  pub more : ℕ
  pub clauses : new.clauses ≡ old.clauses ++ replicate more no_clause
  pub spare_lits : old.spare_lits ≤ new.spare_lits
  pub spare_clauses : new.spare_clauses ≡ old.spare_clauses + more

-- references are below 2 ^ 31 - 2, and there are no more clauses to come than references
pub record IsArena (a : Arena) : Type 0 where
  pub small : length a.clauses + 2 < 2 ^ 31
  pub spare : a.spare_clauses ≤ length a.clauses
  pub lits : a.spare_lits < 2 ^ 32
