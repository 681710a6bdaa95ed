use Rattle.std.proofs.Common.{ℕ, ap, ◌∙◌}
use Rattle.std.specs.Prelude.{slice_get}
use Rattle.conflict_check.specs.Marks.{has_number}
use Rattle.conflict_check.proofs.Walks.{not-marked, now-marked}
use Rattle.conflict_check.proofs.marking.mark.Goals as goal

pub returns-then-not-is_at : goal.returns-then-not-is_at
returns-then-not-is_at c =
    let ss = c.args.stmts.now in
    let out = c.args.out.now.items in
    let mid = c.mark_before.new.out.items in
    not-marked ss out mid mid c.args.number c.is_at.result c.in_ok-mark_before.ensures (c.is_at.ensures ∙ ap (λ (k : ℕ). has_number c.args.number (slice_get ss k)) c.count_of.ensures) c.if-not-is_at.true

pub returns : goal.returns
returns c =
    let ss = c.args.stmts.now in
    let out = c.args.out.now.items in
    let mid = c.mark_before.new.out.items in
    now-marked ss out mid c.push.new.self.items c.args.number c.is_at.result c.in_ok-mark_before.ensures (c.is_at.ensures ∙ ap (λ (k : ℕ). has_number c.args.number (slice_get ss k)) c.count_of.ensures) c.if-not-is_at.false
    c.in_ok-push.ensures.items
