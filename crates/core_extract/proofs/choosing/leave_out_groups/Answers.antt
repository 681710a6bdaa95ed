use Rattle.std.proofs.Common.{◌∙◌}
use Rattle.core_extract.proofs.Attempts.{leaving-as}
use Rattle.core_extract.proofs.Turns.{same-behind, spent-of}
use Rattle.core_extract.proofs.choosing.leave_out_groups.Goals as goal

pub returns-in-Done : goal.returns-in-Done
returns-in-Done g c =
    let h = leaving-as g.F.Oracle.told c.args.asker.now.options c.loop.reduction _ _ c.in-Done.is c.in_ok-leaving.ensures in
    (h.0, same-behind c.args.reduction c.loop.reduction c.in-Done.done c.loop.invariant.same h.1)

pub returns-in-Spent : goal.returns-in-Spent
returns-in-Spent g c =
    let h = leaving-as g.F.Oracle.told c.args.asker.now.options c.loop.reduction _ _ c.in-Spent.is c.in_ok-leaving.ensures in
    let same = c.loop.invariant.same in
    (spent-of g.F.Oracle.told c.args.asker.now.options _ _ c.in-Spent.spent same.whole h.0, h.1 ∙ same.whole)

pub loop-preserved : goal.loop-preserved
loop-preserved g c =
    let h = leaving-as g.F.Oracle.told c.args.asker.now.options c.loop.reduction _ _ c.in-Next.is c.in_ok-leaving.ensures in
    record { reduced = h.0; same = same-behind c.args.reduction c.loop.reduction c.in-Next.next c.loop.invariant.same h.1 }
