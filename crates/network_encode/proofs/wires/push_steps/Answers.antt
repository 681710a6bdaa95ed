use Rattle.network_encode.proofs.Turns.{vars-turn}
use Rattle.network_encode.proofs.wires.push_steps.Goals as goal

pub loop-k-preserved : goal.loop-k-preserved
loop-k-preserved c =
    vars-turn _ _ _ c.args.weight c.args.first c.args.count c.loop-k.k _ c.loop-k-test.true c.in_ok-push.ensures.items c.fresh_atom.ensures c.loop-k.invariant
