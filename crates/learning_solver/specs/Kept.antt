-- How the clause store keeps the clauses that live.
use Rattle.std.specs.Prelude.{◌≡◌, ◌<◌, ℕ, List, IsPermutation}
use Rattle.clause_arena.specs.Clauses.{Clause, clause_at, IsLive, lits_of}
use Rattle.proof_check.specs.Named.{Named, Lives}

-- under the reference stands the clause, its literals in any order
pub record IsStored (clauses : List Clause) (c : ℕ) (d : Named) : Type 0 where
  pub live : IsLive clauses c
  pub id : (clause_at clauses c).id ≡ d.id
  pub lits : IsPermutation d.lits (lits_of clauses c)

-- each clause that lives is stored, and each stored one lives
pub record IsKept (live : List Named) (clauses : List Clause) : Type 0 where
  pub stored : (d : Named) → Lives live d → (c : ℕ) × IsStored clauses c d
  pub named : (c : ℕ) → IsLive clauses c → (d : Named) × Lives live d × IsStored clauses c d

-- an id above those of the CNF is that of one reference alone
pub record AreOnce (base : ℕ) (clauses : List Clause) : Type 0 where
  pub alone : (c d : ℕ) → IsLive clauses c → IsLive clauses d → base < (clause_at clauses c).id
      → (clause_at clauses c).id ≡ (clause_at clauses d).id → c ≡ d
