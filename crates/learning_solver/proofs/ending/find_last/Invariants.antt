use Rattle.std.proofs.Common.{◌≢◌, ◌<◌, ℕ}
use Rattle.clause_arena.specs.Clauses.{IsLive, lits_of}
use Rattle.learning_solver.specs.Ending.{last_lits}
use Rattle.learning_solver.proofs.ending.find_last.Given as goal

abbrev pub invariant-loop-c : goal.invariant-loop-c
invariant-loop-c l = (k : ℕ) → k < l.c → IsLive l.db.clauses k → lits_of l.db.clauses k ≢ last_lits l.last
