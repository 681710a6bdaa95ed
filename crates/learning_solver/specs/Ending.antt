-- The last clause of a refutation.
use Rattle.std.specs.Prelude.{◌≡◌, ◌≢◌, ℕ, List, [], ◌∷◌, Option, None, Some}
use Rattle.order_ints.specs.declared.literal.Lit.{Lit}
use Rattle.order_ints.specs.Truth.{not_lit}
use Rattle.literal_trail.specs.declared.entry.Entry.{Entry}
use Rattle.literal_trail.specs.Trail.{Trail}
use Rattle.clause_arena.specs.Clauses.{Clause, clause_at, IsLive, lits_of}
use Rattle.conflict_analysis.specs.Analysis.{IsForced}
use Rattle.learning_solver.specs.Outcome.{Refutes}

-- no literal, or one alone
abbrev pub last_lits : Option Lit → List Lit
last_lits None = []
last_lits (Some l) = l ∷ []

-- the id is that of a clause of these literals
pub record IsNamedBy (clauses : List Clause) (lits : List Lit) (id : ℕ) : Type 0 where
  pub reference : ℕ
  pub live : IsLive clauses reference
  pub same_id : (clause_at clauses reference).id ≡ id
  pub same_lits : lits_of clauses reference ≡ lits

-- the id is that of a clause that refutes
pub record IsRefuting (clauses : List Clause) (assumption : Option Lit) (id : ℕ) : Type 0 where
  pub last : Option Lit
  pub refutes : Refutes assumption (last_lits last)
  pub named : IsNamedBy clauses (last_lits last) id

-- no live clause refutes
abbrev pub NoneStands : List Clause → Option Lit → Type 0
NoneStands clauses assumption = (last : Option Lit) → Refutes assumption (last_lits last) → (c : ℕ)
    → IsLive clauses c → lits_of clauses c ≢ last_lits last

-- the literal is the negated assumption, and true at level 0 by a clause
pub record IsDenied (t : Trail) (assumption : Option Lit) (denied : Lit) (reason : ℕ) : Type 0 where
  pub lit : Lit
  pub is : assumption ≡ Some lit
  pub negated : denied ≡ not_lit lit
  pub entry : Entry
  pub forced : IsForced t.entries denied.var entry reason
  pub same : entry.lit ≡ denied
