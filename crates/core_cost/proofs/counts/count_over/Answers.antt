use Rattle.std.proofs.Common.{arith}
use Rattle.core_cost.proofs.CountLaws.{count_of_few, count_of_halves}
use Rattle.core_cost.proofs.counts.count_over.Goals as goal

pub returns-then-members-lt2 : goal.returns-then-members-lt2
returns-then-members-lt2 c = rw (count_of_few c.args.members c.args.sum_steps c.if-members-lt2.true) c.sum_over.ensures

pub returns : goal.returns
returns c =
    let halves = count_of_halves c.args.members c.args.sum_steps c.if-members-lt2.false in
    rw halves (omega arith)
