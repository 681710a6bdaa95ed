-- The clause of a reference, with its id.
use Rattle.std.specs.Prelude.{ℕ, List}
use Rattle.clause_arena.specs.Clauses.{Clause, clause_at, lits_of}
use Rattle.proof_check.specs.Named.{Named}

abbrev pub named_in : List Clause → ℕ → Named
named_in clauses c = record { id = (clause_at clauses c).id; lits = lits_of clauses c }
