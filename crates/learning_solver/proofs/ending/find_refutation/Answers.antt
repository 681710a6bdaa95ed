use Rattle.learning_solver.proofs.OpenLaws.{refuting-denied}
use Rattle.learning_solver.proofs.ending.find_refutation.Goals as goal

pub returns-in-Some-assumption-clause-found : goal.returns-in-Some-assumption-clause-found
returns-in-Some-assumption-clause-found c =
    let denied = c.negated.ensures in
    refuting-denied c.args.db.now.clauses c.args.assumption c.in-Some-assumption.a c.negated.result c.in-Some-assumption.is denied.var denied.sign c.find_last-in-Some-assumption.result c.find_last-in-Some-assumption.ensures.found
