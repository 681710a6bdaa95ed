use Rattle.std.proofs.Common.{◌∙◌, refl}
use Rattle.learning_solver.proofs.RunLaws.{left-running}
use Rattle.learning_solver.proofs.MoveLaws.{left-order}
use Rattle.learning_solver.proofs.SolutionLaws.{satisfied, holds-there}
use Rattle.learning_solver.proofs.search.Search.decide_next.Goals as goal

pub returns-in-Ok-clause-turned : goal.returns-in-Ok-clause-turned
returns-in-Ok-clause-turned c =
    let s = c.args.self.now in
    let task = c.args.task in
    let is = c.requires.running.search in
    let given = c.in-None.ensures.none refl in
    let values = c.in-Ok.values in
    let are = c.in-Ok.ensures in (
      left-order task c.args.restarts.now s c.pick.new.self (left-running task c.args.restarts.now s c.requires.running) c.pick.ensures.vars,
      record {
        count = are.count ∙ is.vars;
        satisfies = satisfied s.db.trail s.db.clauses is.db c.requires.complete given values are s.cnf.now _ is.kept is.log.cnf_lives;
        holds = holds-there s.db.trail s.db.clauses is.db c.requires.complete given values are task.assumption c.requires.holds;
      },
    )

pub returns-in-Err-clause-turned : goal.returns-in-Err-clause-turned
returns-in-Err-clause-turned c =
    let s = c.args.self.now in
    left-order c.args.task c.args.restarts.now s c.pick.new.self (left-running c.args.task c.args.restarts.now s c.requires.running) c.pick.ensures.vars
