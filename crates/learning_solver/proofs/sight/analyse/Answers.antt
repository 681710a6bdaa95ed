use Rattle.learning_solver.proofs.ReasonLaws.{reasons-there, conflict-there}
use Rattle.learning_solver.proofs.sight.analyse.Goals as goal

pub analyse-requires-clause-reasons : goal.analyse-requires-clause-reasons
analyse-requires-clause-reasons c =
    let s = c.args.db.now in reasons-there s.clauses s.trail.entries c.requires.db.reasons

pub analyse-requires-clause-conflict : goal.analyse-requires-clause-conflict
analyse-requires-clause-conflict c =
    let s = c.args.db.now in
    conflict-there s.clauses s.trail c.args.conflict c.requires.db c.requires.live c.requires.is_false c.requires.above
