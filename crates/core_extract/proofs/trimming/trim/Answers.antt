use Rattle.std.proofs.Common.{refl}
use Rattle.core_extract.proofs.Attempts.{trimming-as}
use Rattle.core_extract.proofs.Turns.{same-behind}
use Rattle.core_extract.proofs.trimming.trim.Goals as goal

pub returns-in-Ended-clause-reduced : goal.returns-in-Ended-clause-reduced
returns-in-Ended-clause-reduced g c =
    (trimming-as g.F.Oracle.told c.args.asker.now.options c.loop.reduction _ _ c.in-Ended.is c.in_ok-trimming.ensures).0

pub returns-in-Ended-clause-same : goal.returns-in-Ended-clause-same
returns-in-Ended-clause-same g c =
    let h = trimming-as g.F.Oracle.told c.args.asker.now.options c.loop.reduction _ _ c.in-Ended.is c.in_ok-trimming.ensures in
    same-behind c.args.reduction c.loop.reduction c.in-Ended.trimmed c.loop.invariant.same h.1

pub loop-preserved : goal.loop-preserved
loop-preserved g c =
    let h = trimming-as g.F.Oracle.told c.args.asker.now.options c.loop.reduction _ _ c.in-Smaller.is c.in_ok-trimming.ensures in
    record { reduced = h.0; same = same-behind c.args.reduction c.loop.reduction c.in-Smaller.smaller c.loop.invariant.same h.1 }
