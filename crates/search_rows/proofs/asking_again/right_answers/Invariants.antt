use Rattle.std.proofs.Common.{◌≡◌}
use Rattle.search_rows.proofs.asking_again.right_answers.Given as goal

-- the solver stays one of the CNF
abbrev pub invariant-loop-k : goal.invariant-loop-k
invariant-loop-k l = l.solver.cnf.vars ≡ l.cnf.vars
