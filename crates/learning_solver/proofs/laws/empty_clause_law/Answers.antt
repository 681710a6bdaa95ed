use Rattle.learning_solver.proofs.EmptyClauses.{empty-clause}
use Rattle.learning_solver.proofs.laws.empty_clause_law.Goals as goal

pub returns : goal.returns
returns c = empty-clause
