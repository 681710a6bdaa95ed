-- The solver that callers see, over its search.
use Rattle.learning_solver.specs.declared.solver.Solver.TheInside.{Inside}
use Rattle.learning_solver.specs.Outcome.{Logged}
use Rattle.learning_solver.specs.Searching.{IsSearch}

abbrev pub logged : Inside → Logged
logged s = record { cnf = s.search.cnf.now; log = s.search.lines.items }

abbrev pub IsSolver : Inside → Type 0
IsSolver s = IsSearch s.search
