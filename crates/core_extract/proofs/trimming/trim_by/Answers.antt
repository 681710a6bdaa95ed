use Rattle.std.proofs.Common.{length, ap, ◌∙◌}
use Rattle.core_extract.proofs.Turns.{attempt-as}
use Rattle.core_extract.proofs.trimming.trim_by.Goals as goal

pub returns-in-Smaller : goal.returns-in-Smaller
returns-in-Smaller g c =
    let h = attempt-as g.F.Oracle.told c.args.asker.now.options c.args.reduction c.args.out.items _ _ c.in-Smaller.is c.in_ok-attempt.ensures in
    (h.0, record { whole = h.1; count = ap length h.2 ∙ c.requires.count })

pub returns-in-Solved : goal.returns-in-Solved
returns-in-Solved g c =
    let h = attempt-as g.F.Oracle.told c.args.asker.now.options c.args.reduction c.args.out.items _ _ c.in-Solved.is c.in_ok-attempt.ensures in
    (h.0, record { whole = h.1; count = ap length h.2 })

pub returns : goal.returns
returns g c =
    let h = attempt-as g.F.Oracle.told c.args.asker.now.options c.args.reduction c.args.out.items _ _ c.in-Spent.is c.in_ok-attempt.ensures in
    (h.0, record { whole = h.1; count = ap length h.2 })
