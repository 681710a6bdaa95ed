use Rattle.std.proofs.Common.{◌<◌, sym, arith, subst, Bool}
use Rattle.learning_solver.specs.declared.search.Search.{Search}
use Rattle.learning_solver.specs.Restarting.{Counts, IsInTime}
use Rattle.learning_solver.specs.Searching.{IsRunning, left_to_do, GoesForward}
use Rattle.learning_solver.proofs.RestartLaws.{few-stretches, same-in-time, learned-in-time, anew-in-time}
use Rattle.learning_solver.proofs.TeachLaws.{teaches}
use Rattle.learning_solver.proofs.RunLaws.{left-running, left-stays, spent, forward-stays, forward-turns, forward-anew, forward-then, running-learned, running-anew}
use Rattle.learning_solver.proofs.OpenLaws.{none-above-bottom}
use Rattle.learning_solver.proofs.search.Search.learn_one.Goals as goal
use Rattle.learning_solver.proofs.search.Search.learn_one.Goals.{then-learn, else-learn}

pub returns-then-self-task-clause-turned : goal.returns-then-self-task-clause-turned
returns-then-self-task-clause-turned c =
    let s = c.args.self.now in (
      left-running c.args.task c.args.restarts.now s c.requires.running,
      spent c.args.task c.args.restarts.now s c.requires.running c.if-self-task.true
          (none-above-bottom s.db.clauses s.db.trail c.requires.running.search.db c.requires.above c.args.task.assumption (c.requires.running.assumed c.requires.above)),
    )

pub returns-in-Err-clause-turned : goal.returns-in-Err-clause-turned
returns-in-Err-clause-turned c = left-stays c.args.task c.args.restarts.now c.args.self.now c.study.new.self c.requires.running c.study.ensures.stays c.study.ensures.search

pub returns-in-Err-clause-forward : goal.returns-in-Err-clause-forward
returns-in-Err-clause-forward c = forward-stays c.args.self.now c.study.new.self c.study.ensures.stays

pub turn_back-requires-clause-teaches : goal.turn_back-requires-clause-teaches
turn_back-requires-clause-teaches c =
    teaches c.args.self.now c.study.new.self c.args.conflict c.in-Ok.lesson c.requires.running.search c.requires.live c.study.ensures.stays c.in-Ok.ensures.ready c.in-Ok.ensures.analysed

pub learn-requires-clause-few : goal.learn-requires-clause-few
learn-requires-clause-few c =
    let s = c.args.self.now in
    few-stretches s.cnf.now.vars s.added _ c.args.restarts.now c.requires.running.stretched (omega arith)

pub returns-clause-turned : goal.returns-clause-turned
returns-clause-turned c =
    let s0 = c.args.self.now in
    let s1 = c.study.new.self in
    let s2 = c.turn_back.new.self in
    let task = c.args.task in
    let P : Search → Type 0 = λ s. IsRunning task c.learn.new.self s × (left_to_do task s < left_to_do task s0) in
    elim c.if-learn.branch [
      | then-learn w ↦
          subst P (sym w.self-is)
          (running-anew task c.args.restarts.now c.learn.new.self s0 s1 s2 c.in-Ok.lesson c.requires.running c.study.ensures.stays c.turn_back.ensures.turned c.if-self-task.false w.begin_anew.new.self w.begin_anew.ensures.anew w.begin_anew.ensures.search
          (let Q : Bool → Type 0 = Counts c.args.restarts.now c.learn.new.self in subst Q w.if-learn.true c.learn.ensures))
      | else-learn w ↦
          subst P (sym w.self-is)
          (running-learned task c.args.restarts.now c.learn.new.self s0 s1 s2 c.in-Ok.lesson c.requires.running c.study.ensures.stays c.turn_back.ensures.turned c.if-self-task.false c.turn_back.ensures.search
          (let Q : Bool → Type 0 = Counts c.args.restarts.now c.learn.new.self in subst Q w.if-learn.false c.learn.ensures))
    ]

pub returns-clause-forward : goal.returns-clause-forward
returns-clause-forward c =
    let s0 = c.args.self.now in
    let s1 = c.study.new.self in
    let s2 = c.turn_back.new.self in
    let before = forward-then s0 s1 s2 (forward-stays s0 s1 c.study.ensures.stays) (forward-turns s1 s2 c.in-Ok.lesson c.turn_back.ensures.turned) in
    let P : Search → Type 0 = GoesForward s0 in
    elim c.if-learn.branch [
      | then-learn w ↦ subst P (sym w.self-is) (forward-then s0 s2 w.begin_anew.new.self before (forward-anew s2 w.begin_anew.new.self w.begin_anew.ensures.anew))
      | else-learn w ↦ subst P (sym w.self-is) before
    ]

pub returns-clause-in_time : goal.returns-clause-in_time
returns-clause-in_time c =
    let s = c.args.self.now in
    let P : Search → Type 0 = λ x. IsInTime c.args.restarts.now c.learn.new.self x.db.trail.level in
    let Q : Bool → Type 0 = Counts c.args.restarts.now c.learn.new.self in
    elim c.if-learn.branch [
      | then-learn w ↦
          subst P (sym w.self-is)
          (anew-in-time s.cnf.now.vars s.added _ w.begin_anew.new.self.db.trail.level c.args.restarts.now c.learn.new.self c.requires.running.stretched (subst Q w.if-learn.true c.learn.ensures) w.begin_anew.ensures.anew.level)
      | else-learn w ↦ subst P (sym w.self-is) (learned-in-time c.turn_back.new.self.db.trail.level c.args.restarts.now c.learn.new.self (subst Q w.if-learn.false c.learn.ensures))
    ]
