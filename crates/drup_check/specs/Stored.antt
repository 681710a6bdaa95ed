-- Listed clauses as a store has them.
use Rattle.std.specs.Prelude.{◌↔◌, ◌⊎◌, ℕ, List, Contains, Option, None, Some}
use Rattle.order_ints.specs.declared.literal.Lit.{Lit}
use Rattle.order_ints.specs.Truth.{not_lit}
use Rattle.clause_arena.specs.Clauses.{Clause, IsLive, lits_of}
use Rattle.clause_rings.specs.Clauses.{IsApart}

-- the same literals, in any order, each any number of times
abbrev pub SameSet : List Lit → List Lit → Type 0
SameSet c d = (l : Lit) → Contains c l ↔ Contains d l

-- a literal and its negation stand in the clause
pub record HasOpposites (d : List Lit) : Type 0 where
  pub lit : Lit
  pub is_in : Contains d lit
  pub negated_in : Contains d (not_lit lit)

-- a live clause of the store has these literals
pub record IsStored (clauses : List Clause) (d : List Lit) : Type 0 where
  pub reference : ℕ
  pub live : IsLive clauses reference
  pub same : SameSet (lits_of clauses reference) d

-- a listed clause has these literals
pub record IsListed (cs : List (List Lit)) (lits : List Lit) : Type 0 where
  pub clause : List Lit
  pub is_in : Contains cs clause
  pub same : SameSet lits clause

-- a live clause has these literals, or a literal and its negation are among them, so that none need have them
abbrev pub IsHeld : List Clause → List Lit → Type 0
IsHeld clauses d = IsStored clauses d ⊎ HasOpposites d

-- each listed clause is held
abbrev pub AreHeld : List Clause → List (List Lit) → Type 0
AreHeld clauses cs = (d : List Lit) → Contains cs d → IsHeld clauses d

-- each live clause is listed
abbrev pub AreListed : List Clause → List (List Lit) → Type 0
AreListed clauses cs = (c : ℕ) → IsLive clauses c → IsListed cs (lits_of clauses c)

-- a clause put in order: its literals, of which no two have one variable; nothing where it has a literal and its
-- negation
abbrev pub IsOrderedAs : List Lit → Option (List Lit) → Type 0
IsOrderedAs lits None = HasOpposites lits
IsOrderedAs lits (Some ordered) = IsApart ordered × SameSet ordered lits
