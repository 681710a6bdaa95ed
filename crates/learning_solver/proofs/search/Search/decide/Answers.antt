use Rattle.std.proofs.Common.{ap}
use Rattle.clause_rings.specs.Clauses.{ClauseLists}
use Rattle.learning_solver.proofs.MoveLaws.{running-decided}
use Rattle.learning_solver.proofs.search.Search.decide.Goals as goal

pub returns-clause-turned : goal.returns-clause-turned
returns-clause-turned c =
    running-decided c.args.task c.args.restarts.now c.args.self.now c.assign.new.self c.args.l c.requires.running
    (ap (λ (d : ClauseLists). d.clauses) c.assign.ensures.trail) (ap (λ (d : ClauseLists). d.trail) c.assign.ensures.trail)
    c.assign.ensures.db c.requires.free c.requires.stands
