use Rattle.std.proofs.Common.{◌+◌, ◌∙◌, [], None, refl}
use Rattle.learning_solver.proofs.TeachLaws.{refuted-accepted, empty-range}
use Rattle.learning_solver.proofs.RunLaws.{left-running, left-stays, left-takes, spent, forward-stays}
use Rattle.learning_solver.proofs.EndLaws.{refutation-named, new-stays, refutes-empty, new-empty}
use Rattle.learning_solver.proofs.search.Search.refute.Goals as goal

pub returns-in-Some-clause-turned : goal.returns-in-Some-clause-turned
returns-in-Some-clause-turned c =
    let s = c.args.self.now in
    let task = c.args.task in
    let is = c.requires.running.search in (
      left-running task c.args.restarts.now s c.requires.running,
      let found = c.in-Some.ensures.found in
          refutation-named s.cnf.now s.lines.items s.db.clauses is.log is.kept task.assumption found.last c.in-Some.id found.refutes found.named,
    )

pub returns-then-self-task-clause-turned : goal.returns-then-self-task-clause-turned
returns-then-self-task-clause-turned c =
    let s = c.args.self.now in
    let task = c.args.task in
    (left-running task c.args.restarts.now s c.requires.running, spent task c.args.restarts.now s c.requires.running c.if-self-task.true (c.in_default.ensures.none refl))

pub returns-in_default-lesson_of_refutation-clause-turned : goal.returns-in_default-lesson_of_refutation-clause-turned
returns-in_default-lesson_of_refutation-clause-turned c =
    left-stays c.args.task c.args.restarts.now c.args.self.now c.lesson_of_refutation.new.self c.requires.running c.lesson_of_refutation.ensures.stays c.lesson_of_refutation.ensures.search

pub returns-in_default-lesson_of_refutation-clause-forward : goal.returns-in_default-lesson_of_refutation-clause-forward
returns-in_default-lesson_of_refutation-clause-forward c = forward-stays c.args.self.now c.lesson_of_refutation.new.self c.lesson_of_refutation.ensures.stays

pub take-clause-requires-clause-fault : goal.take-clause-requires-clause-fault
take-clause-requires-clause-fault c =
    let s = c.args.self.now in
    refuted-accepted s c.lesson_of_refutation.new.self c.args.conflict c.in-Ok.lesson [] c.requires.running.search c.requires.live c.lesson_of_refutation.ensures.stays c.in-Ok.ensures.ready c.in-Ok.ensures.refuted (empty-range (s.cnf.now.vars + 1))

pub take-clause-requires-clause-new : goal.take-clause-requires-clause-new
take-clause-requires-clause-new c =
    let s = c.args.self.now in
    let is = c.requires.running.search in
    let lits = c.in-Ok.ensures.ready.lits ∙ c.in-Ok.ensures.refuted.same in
    new-stays s c.lesson_of_refutation.new.self c.lesson_of_refutation.ensures.stays [] c.in-Ok.lesson.lits lits
    (new-empty _ s.db.clauses is.kept (c.in_default.ensures.none refl None (refutes-empty c.args.task.assumption)))

pub returns-clause-turned : goal.returns-clause-turned
returns-clause-turned c =
    let s = c.args.self.now in
    let mid = c.lesson_of_refutation.new.self in
    let new = c.take-clause.new.self in
    let task = c.args.task in
    let lesson = c.in-Ok.lesson in
    let takes = c.take-clause.ensures.takes in
    let is = c.take-clause.ensures.search in
    let lits = c.in-Ok.ensures.ready.lits ∙ c.in-Ok.ensures.refuted.same in (
      left-takes task c.args.restarts.now s mid new lesson c.take-clause.result c.requires.running c.lesson_of_refutation.ensures.stays takes is c.if-self-task.false,
      refutation-named new.cnf.now new.lines.items new.db.clauses is.log is.kept task.assumption None lesson.id (refutes-empty task.assumption)
          (record { reference = c.take-clause.result; live = takes.live; same_id = takes.id; same_lits = takes.lits ∙ lits }),
    )
