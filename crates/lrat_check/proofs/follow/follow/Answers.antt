use Rattle.std.proofs.Common.{◌+◌, drop, ap, sym, ◌∙◌}
use Rattle.literal_trail.specs.Trail.{value_in}
use Rattle.lrat_check.specs.declared.follow.Step.{Step}
use Rattle.lrat_check.specs.Hints.{shows}
use Rattle.lrat_check.specs.Stored.{told}
use Rattle.lrat_check.proofs.Steps.{one-hint}
use Rattle.lrat_check.proofs.follow.follow.Goals as goal
use Rattle.lrat_check.proofs.follow.follow.Goals.{in-Tells+in_ok-push-in-Tells, in-Passes}

pub returns-in-Fails-clause-shown : goal.returns-in-Fails-clause-shown
returns-in-Fails-clause-shown c =
    sym (c.loop-i.invariant.left
    ∙ one-hint c.args.cnf.now.clauses c.args.added.now.entries (value_in c.loop-i.trail.entries) (value_in c.follow_one.new.trail.entries) c.args.hints.now c.loop-i.i _ c.follow_one.result c.loop-i-test.true c.follow_one.ensures.told
    ∙ ap (λ (s : Step). told s (shows c.args.cnf.now.clauses c.args.added.now.entries (value_in c.follow_one.new.trail.entries) (drop (c.loop-i.i + 1) c.args.hints.now))) c.in-Fails.is)

pub returns-in-Ends-clause-shown : goal.returns-in-Ends-clause-shown
returns-in-Ends-clause-shown c =
    sym (c.loop-i.invariant.left
    ∙ one-hint c.args.cnf.now.clauses c.args.added.now.entries (value_in c.loop-i.trail.entries) (value_in c.follow_one.new.trail.entries) c.args.hints.now c.loop-i.i _ c.follow_one.result c.loop-i-test.true c.follow_one.ensures.told
    ∙ ap (λ (s : Step). told s (shows c.args.cnf.now.clauses c.args.added.now.entries (value_in c.follow_one.new.trail.entries) (drop (c.loop-i.i + 1) c.args.hints.now))) c.in-Ends.is)

pub loop-i-preserved : goal.loop-i-preserved
loop-i-preserved c =
    let left =
    c.loop-i.invariant.left
    ∙ one-hint c.args.cnf.now.clauses c.args.added.now.entries (value_in c.loop-i.trail.entries) (value_in c.follow_one.new.trail.entries) c.args.hints.now c.loop-i.i _ c.follow_one.result c.loop-i-test.true c.follow_one.ensures.told in
    let by = λ (s : Step). told s (shows c.args.cnf.now.clauses c.args.added.now.entries (value_in c.follow_one.new.trail.entries) (drop (c.loop-i.i + 1) c.args.hints.now)) in
    elim c.match-follow_one.branch [
      | in-Tells+in_ok-push-in-Tells w ↦ record { left = left ∙ ap by w.in-Tells.is; vars = c.follow_one.ensures.vars ∙ c.loop-i.invariant.vars; bottom = c.follow_one.ensures.bottom }
      | in-Passes w ↦ record { left = left ∙ ap by w.in-Passes.is; vars = c.follow_one.ensures.vars ∙ c.loop-i.invariant.vars; bottom = c.follow_one.ensures.bottom }
    ]
