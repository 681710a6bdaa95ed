use Rattle.std.proofs.Common.{◌+◌, refl, sym, ◌∙◌}
use Rattle.std.proofs.lemmas.Bool.{true≢false}
use Rattle.drup_check.proofs.Checked.{checked_none, is_whole, is_early, line_checked, line_refused, is_taken, not_taken}
use Rattle.drup_check.proofs.check.first_refused.Goals as goal

pub loop-line-init : goal.loop-line-init
loop-line-init c = checked_none c.args.cnf.now c.args.text.now c.in_ok-store.store.refuted c.in_ok-store.store.tiers c.in_ok-store.ensures.stands c.in_ok-store.ensures.vars

pub returns-then-not-branch : goal.returns-then-not-branch
returns-then-not-branch c =
    let old = c.loop-line.store in
    let new = c.take_line.new.self in
    line_refused c.args.cnf.now c.args.text.now c.loop-line.rest.now c.loop-line.read old.refuted old.tiers c.loop-line.invariant c.in-Some.line.now c.in-Some.behind.now (c.loop-line.read + 1)
    c.in-Some.ensures.0 c.in-Some.ensures.1 refl
    (not_taken old.tiers.db.trail.vars c.in-Some.line.now old.refuted old.tiers new.refuted new.tiers c.in_ok-take_line.field-0 c.if-not-branch.true c.in_ok-take_line.ensures.taken)

pub loop-line-preserved : goal.loop-line-preserved
loop-line-preserved c =
    let old = c.loop-line.store in
    let new = c.take_line.new.self in
    line_checked c.args.cnf.now c.args.text.now c.loop-line.rest.now c.loop-line.read old.refuted old.tiers c.loop-line.invariant c.in-Some.line.now c.in-Some.behind.now (c.loop-line.read + 1)
    c.in-Some.ensures.0 c.in-Some.ensures.1 refl new.refuted new.tiers
    (is_taken old.tiers.db.trail.vars c.in-Some.line.now old.refuted old.tiers new.refuted new.tiers c.in_ok-take_line.field-0 c.if-not-branch.false c.in_ok-take_line.ensures.taken) c.in_ok-take_line.ensures.vars

pub returns-then-refuted : goal.returns-then-refuted
returns-then-refuted c =
    is_whole c.args.cnf.now c.args.text.now c.loop-line.rest.now c.loop-line.read c.loop-line.store.refuted c.loop-line.store.tiers c.loop-line.invariant c.in_default.ensures
    (λ cs st. (c.in_ok-refuted.ensures cs st).0 c.if-refuted.true)

pub returns : goal.returns
returns c =
    is_early c.args.cnf.now c.args.text.now c.loop-line.rest.now c.loop-line.read c.loop-line.store.refuted c.loop-line.store.tiers c.loop-line.invariant (c.loop-line.read + 1) refl c.in_default.ensures
    (λ cs st shown. true≢false (sym ((c.in_ok-refuted.ensures cs st).1 shown) ∙ c.if-refuted.false))
