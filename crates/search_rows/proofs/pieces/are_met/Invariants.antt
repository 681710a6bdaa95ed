use Rattle.std.proofs.Common.{◌≡◌}
use Rattle.search_rows.proofs.pieces.are_met.Given as goal

-- the solver stays one of the CNF
abbrev pub invariant-loop : goal.invariant-loop
invariant-loop l = l.solver.cnf ≡ l.fn.solver.cnf
