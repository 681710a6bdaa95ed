use Rattle.std.proofs.Common.{arith}
use Rattle.decompose.proofs.SumSteps.{first-costs}
use Rattle.decompose.proofs.cuts.sum_cut.Goals as goal

pub added_cut-requires-clause-room : goal.added_cut-requires-clause-room
added_cut-requires-clause-room c =
    let most = first-costs c.args.ints.now c.index-ints-0.result c.index-ints-1.result c.index-ints-0.is c.index-ints-1.is c.if-ints-le3.false in
    omega (arith, most, c.requires.room)
