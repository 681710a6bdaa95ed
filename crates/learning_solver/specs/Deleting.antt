-- Which clauses may be deleted.
use Rattle.std.specs.Prelude.{ℕ, ◌<◌, ◌≤◌, length}
use Rattle.clause_arena.specs.Clauses.{clause_at, IsLive, lits_of}
use Rattle.clause_rings.specs.Clauses.{ClauseLists, IsUnused}

-- a clause is there, with an id above those of the CNF and more than one literal, and is no reason
pub record IsDeletable (db : ClauseLists) (base c : ℕ) : Type 0 where
  pub live : IsLive db.clauses c
  pub learned : base < (clause_at db.clauses c).id
  pub long : 2 ≤ length (lits_of db.clauses c)
  pub unused : IsUnused db.trail.entries c
