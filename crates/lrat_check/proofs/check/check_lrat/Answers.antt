use Rattle.std.proofs.Common.{◌+◌, refl}
use Rattle.std.proofs.lemmas.Result.{IfOk-weaker}
use Rattle.lrat_check.proofs.Checked.{all_read, line_checked, line_refused}
use Rattle.lrat_check.proofs.Said.{match-true, match-false}
use Rattle.lrat_check.proofs.check.check_lrat.Goals as goal

pub returns-then-not-branch : goal.returns-then-not-branch
returns-then-not-branch c =
    line_refused c.args.cnf.now c.args.text.now c.loop-line.rest.now c.loop-line.read c.loop-line.store c.loop-line.invariant c.in-Some.line.now c.in-Some.behind.now (c.loop-line.read + 1) c.in-Some.ensures.0 c.in-Some.ensures.1 refl
    (match-false _ _ c.in_ok-take_line.field-0 c.if-not-branch.true c.in_ok-take_line.ensures.taken)

pub loop-line-preserved : goal.loop-line-preserved
loop-line-preserved c =
    line_checked c.args.cnf.now c.args.text.now c.loop-line.rest.now c.loop-line.read c.loop-line.store c.loop-line.invariant c.in-Some.line.now c.in-Some.behind.now (c.loop-line.read + 1) c.in-Some.ensures.0 c.in-Some.ensures.1 refl
    c.take_line.new.self (match-true _ _ c.in_ok-take_line.field-0 c.if-not-branch.false c.in_ok-take_line.ensures.taken) (c.in_ok-take_line.ensures.holds c.if-not-branch.false)

pub returns : goal.returns
returns c =
    IfOk-weaker c.ended.result _ _
    (λ e k. all_read c.args.cnf.now c.args.text.now c.loop-line.rest.now c.loop-line.read c.loop-line.store c.loop-line.invariant c.in_default.ensures e k)
    c.ended.ensures
