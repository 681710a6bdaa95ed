use Rattle.network_encode.proofs.Turns.{copies-turn}
use Rattle.network_encode.proofs.units.push_copies.Goals as goal

pub loop-k-preserved : goal.loop-k-preserved
loop-k-preserved c =
    copies-turn _ _ _ c.args.atom c.args.count c.loop-k.k c.loop-k-test.true c.in_ok-push.ensures.items c.loop-k.invariant
