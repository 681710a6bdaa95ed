use Rattle.std.proofs.Common.{length, refl, ap, ◌∙◌}
use Rattle.core_extract.specs.Extracted.{IsSameModel}
use Rattle.core_extract.proofs.Turns.{attempt-as, same-behind}
use Rattle.core_extract.proofs.choosing.leave_out.Goals as goal

pub returns-then-count-eq0 : goal.returns-then-count-eq0
returns-then-count-eq0 g c = (c.requires.reduced, record { whole = refl; count = refl })

pub trim-requires-clause-reduced : goal.trim-requires-clause-reduced
trim-requires-clause-reduced g c =
    (attempt-as g.F.Oracle.told c.args.asker.now.options c.args.reduction c.in_ok-group.group.out.items _ _ c.in-Smaller.is c.in_ok-attempt.ensures).0

pub returns-in_ok-trimmed-in-Smaller : goal.returns-in_ok-trimmed-in-Smaller
returns-in_ok-trimmed-in-Smaller g c =
    let h = attempt-as g.F.Oracle.told c.args.asker.now.options c.args.reduction c.in_ok-group.group.out.items _ _ c.in-Smaller.is c.in_ok-attempt.ensures in
    let same : IsSameModel c.args.reduction c.in-Smaller.smaller = record { whole = h.1; count = ap length h.2 ∙ (c.in_ok-group.ensures ∙ ap length c.as_slice.ensures.value) } in
    let trimmed = c.in_ok-trimmed-in-Smaller in
    (trimmed.ensures.reduced, same-behind c.args.reduction c.in-Smaller.smaller trimmed.trimmed same trimmed.ensures.same)

pub returns-in_ok-single-in-Solved : goal.returns-in_ok-single-in-Solved
returns-in_ok-single-in-Solved g c =
    let h = attempt-as g.F.Oracle.told c.args.asker.now.options c.args.reduction c.in_ok-group.group.out.items _ _ c.in-Solved.is c.in_ok-attempt.ensures in
    (h.0, record { whole = h.1; count = ap length h.2 })

pub returns-then-count-eq1 : goal.returns-then-count-eq1
returns-then-count-eq1 g c =
    let h = attempt-as g.F.Oracle.told c.args.asker.now.options c.args.reduction c.in_ok-group.group.out.items _ _ c.in-Spent.is c.in_ok-attempt.ensures in
    (h.3, h.1)

pub returns-else-count-eq1 : goal.returns-else-count-eq1
returns-else-count-eq1 g c =
    let h = attempt-as g.F.Oracle.told c.args.asker.now.options c.args.reduction c.in_ok-group.group.out.items _ _ c.in-Spent.is c.in_ok-attempt.ensures in
    (h.0, record { whole = h.1; count = ap length h.2 })
