use Rattle.std.proofs.Common.{◌≡◌, ◌++◌, drop}
use Rattle.clause_arena.specs.Clauses.{lits_of}
use Rattle.drup_check.proofs.aside.copied.Given as goal

-- what is copied and what is left are all literals
abbrev pub invariant-loop-place : goal.invariant-loop-place
invariant-loop-place l = l.lits.items ++ drop l.place (lits_of l.db.clauses l.c) ≡ lits_of l.db.clauses l.c
