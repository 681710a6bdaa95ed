use Rattle.learning_solver.proofs.MoveLaws.{running-propagated, turned-propagated}
use Rattle.learning_solver.proofs.search.Search.turn.Goals as goal

pub learn-requires-clause-running : goal.learn-requires-clause-running
learn-requires-clause-running c =
    running-propagated c.args.task c.args.restarts.now c.args.self.now c.propagate.new.self c.requires.running c.propagate.ensures.clauses c.propagate.ensures.trail c.propagate.ensures.db

pub refute-requires-clause-running : goal.refute-requires-clause-running
refute-requires-clause-running c =
    running-propagated c.args.task c.args.restarts.now c.args.self.now c.propagate.new.self c.requires.running c.propagate.ensures.clauses c.propagate.ensures.trail c.propagate.ensures.db

pub go_on-requires-clause-running : goal.go_on-requires-clause-running
go_on-requires-clause-running c =
    running-propagated c.args.task c.args.restarts.now c.args.self.now c.propagate.new.self c.requires.running c.propagate.ensures.clauses c.propagate.ensures.trail c.propagate.ensures.db

pub returns-in-Some-clause-turned : goal.returns-in-Some-clause-turned
returns-in-Some-clause-turned c =
    turned-propagated c.args.task c.args.restarts.now c.args.self.now c.propagate.new.self c.requires.running c.propagate.ensures.clauses c.propagate.ensures.trail c.propagate.ensures.db c.learn.new.restarts c.learn.new.self c.learn.result c.learn.ensures.turned

pub returns-in-Some-2-clause-turned : goal.returns-in-Some-2-clause-turned
returns-in-Some-2-clause-turned c =
    turned-propagated c.args.task c.args.restarts.now c.args.self.now c.propagate.new.self c.requires.running c.propagate.ensures.clauses c.propagate.ensures.trail c.propagate.ensures.db c.args.restarts.now c.refute.new.self c.refute.result c.refute.ensures.turned

pub returns-in-None-clause-turned : goal.returns-in-None-clause-turned
returns-in-None-clause-turned c =
    turned-propagated c.args.task c.args.restarts.now c.args.self.now c.propagate.new.self c.requires.running c.propagate.ensures.clauses c.propagate.ensures.trail c.propagate.ensures.db c.args.restarts.now c.go_on.new.self c.go_on.result c.go_on.ensures.turned
