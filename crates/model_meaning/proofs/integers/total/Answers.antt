use Rattle.std.proofs.Common.{arith}
use Rattle.std.proofs.lemmas.Int.{ints}
use Rattle.model_meaning.proofs.Sums.{total-drop}
use Rattle.model_meaning.proofs.integers.total.Goals as goal

pub loop-member-preserved : goal.loop-member-preserved
loop-member-preserved c =
    let e = total-drop c.args.values.now c.args.members.now c.loop-member.member-index (omega arith) in
    record { sum = omega (arith, ints, e); low = omega (arith, ints); high = omega (arith, ints) }
