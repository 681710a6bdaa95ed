use Rattle.clause_arena.specs.Clauses.{lits_of}
use Rattle.learning_solver.proofs.ReasonLaws.{reasons-there}
use Rattle.learning_solver.proofs.MoveLaws.{bottom-false}
use Rattle.learning_solver.proofs.search.Search.lesson_of_refutation.Goals as goal

pub refute-requires-clause-reasons : goal.refute-requires-clause-reasons
refute-requires-clause-reasons c =
    let s = c.args.self.now in reasons-there s.db.clauses s.db.trail.entries c.requires.search.db.reasons

pub refute-requires-clause-conflict : goal.refute-requires-clause-conflict
refute-requires-clause-conflict c =
    let s = c.args.self.now in
    bottom-false s.db.trail c.requires.search.db.trail c.requires.bottom (lits_of s.db.clauses c.args.conflict) c.requires.is_false
