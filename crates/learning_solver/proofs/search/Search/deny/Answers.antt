use Rattle.std.proofs.Common.{◌∙◌, [], ◌∷◌, Some, refl}
use Rattle.learning_solver.proofs.TeachLaws.{refuted-accepted, one-range, forced-live}
use Rattle.learning_solver.proofs.RunLaws.{left-running, left-stays, left-takes, spent, forward-stays}
use Rattle.learning_solver.proofs.EndLaws.{refutation-named, new-stays, refutes-denied, new-unit}
use Rattle.learning_solver.proofs.OpenLaws.{none-denied}
use Rattle.learning_solver.proofs.search.Search.deny.Goals as goal

pub returns-in-Some-clause-turned : goal.returns-in-Some-clause-turned
returns-in-Some-clause-turned c =
    let s = c.args.self.now in
    let task = c.args.task in
    let is = c.requires.running.search in (
      left-running task c.args.restarts.now s c.requires.running,
      refutation-named s.cnf.now s.lines.items s.db.clauses is.log is.kept task.assumption (Some c.args.denied) c.in-Some.id (refutes-denied c.args.self.now.db.trail task.assumption c.args.denied c.args.reason c.requires.denied) c.in-Some.ensures.found,
    )

pub returns-then-self-task-clause-turned : goal.returns-then-self-task-clause-turned
returns-then-self-task-clause-turned c =
    let s = c.args.self.now in
    let task = c.args.task in (
      left-running task c.args.restarts.now s c.requires.running,
      spent task c.args.restarts.now s c.requires.running c.if-self-task.true
          (none-denied s.db.clauses s.db.trail task.assumption c.args.denied c.args.reason c.requires.denied c.requires.complete (c.in_default.ensures.none refl)),
    )

pub returns-in_default-lesson_of_denial-clause-turned : goal.returns-in_default-lesson_of_denial-clause-turned
returns-in_default-lesson_of_denial-clause-turned c =
    left-stays c.args.task c.args.restarts.now c.args.self.now c.lesson_of_denial.new.self c.requires.running c.lesson_of_denial.ensures.stays c.lesson_of_denial.ensures.search

pub returns-in_default-lesson_of_denial-clause-forward : goal.returns-in_default-lesson_of_denial-clause-forward
returns-in_default-lesson_of_denial-clause-forward c = forward-stays c.args.self.now c.lesson_of_denial.new.self c.lesson_of_denial.ensures.stays

pub take-clause-requires-clause-fault : goal.take-clause-requires-clause-fault
take-clause-requires-clause-fault c =
    let s = c.args.self.now in
    let is = c.requires.running.search in
    let denied = c.requires.denied in
    refuted-accepted s c.lesson_of_denial.new.self c.args.reason c.in-Ok.lesson (c.args.denied ∷ []) is (forced-live s.db.clauses s.db.trail is.db c.args.denied.var denied.entry c.args.reason denied.forced) c.lesson_of_denial.ensures.stays c.in-Ok.ensures.ready c.in-Ok.ensures.refuted
    (one-range s.db.trail is.db.trail s.cnf.now.vars is.vars c.args.denied denied.entry denied.forced.found)

pub take-clause-requires-clause-new : goal.take-clause-requires-clause-new
take-clause-requires-clause-new c =
    let s = c.args.self.now in
    let is = c.requires.running.search in
    let lits = c.in-Ok.ensures.ready.lits ∙ c.in-Ok.ensures.refuted.same in
    new-stays s c.lesson_of_denial.new.self c.lesson_of_denial.ensures.stays (c.args.denied ∷ []) c.in-Ok.lesson.lits lits
    (new-unit _ s.db.clauses s.db.trail.entries c.args.denied is.kept c.requires.complete is.db.apart (c.in_default.ensures.none refl))

pub returns-clause-turned : goal.returns-clause-turned
returns-clause-turned c =
    let s = c.args.self.now in
    let mid = c.lesson_of_denial.new.self in
    let new = c.take-clause.new.self in
    let task = c.args.task in
    let lesson = c.in-Ok.lesson in
    let takes = c.take-clause.ensures.takes in
    let is = c.take-clause.ensures.search in
    let lits = c.in-Ok.ensures.ready.lits ∙ c.in-Ok.ensures.refuted.same in (
      left-takes task c.args.restarts.now s mid new lesson c.take-clause.result c.requires.running c.lesson_of_denial.ensures.stays takes is c.if-self-task.false,
      refutation-named new.cnf.now new.lines.items new.db.clauses is.log is.kept task.assumption (Some c.args.denied) lesson.id (refutes-denied c.args.self.now.db.trail task.assumption c.args.denied c.args.reason c.requires.denied)
          (record { reference = c.take-clause.result; live = takes.live; same_id = takes.id; same_lits = takes.lits ∙ lits }),
    )
