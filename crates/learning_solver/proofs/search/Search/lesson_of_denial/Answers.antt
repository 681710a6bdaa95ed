use Rattle.learning_solver.proofs.ReasonLaws.{reasons-there}
use Rattle.learning_solver.proofs.search.Search.lesson_of_denial.Goals as goal

pub confirm-requires-clause-reasons : goal.confirm-requires-clause-reasons
confirm-requires-clause-reasons c =
    let s = c.args.self.now in reasons-there s.db.clauses s.db.trail.entries c.requires.search.db.reasons
