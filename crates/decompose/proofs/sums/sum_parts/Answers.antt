use Rattle.std.proofs.Common.{arith}
use Rattle.decompose.proofs.SumSteps.{fresh-costs}
use Rattle.decompose.proofs.sums.sum_parts.Goals as goal

pub long_parts-requires-clause-room : goal.long_parts-requires-clause-room
long_parts-requires-clause-room c =
    let long = c.if-len-le3.false in
    let most = fresh-costs c.args.ints.items c.take_first-a.result c.take_first-b.result c.take_first-a.new.ints.items c.take_first-b.new.ints.items c.take_first-a.ensures c.take_first-b.ensures (omega (arith, c.len.ensures, c.args.ints.ok.0)) in
    omega (arith, most, c.requires.room)
