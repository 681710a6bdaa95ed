use Rattle.std.proofs.Common.{arith}
use Rattle.network_encode.proofs.Turns.{odd-turn}
use Rattle.network_encode.proofs.units.second_places.Goals as goal

pub loop-k-preserved : goal.loop-k-preserved
loop-k-preserved c =
    odd-turn _ _ _ c.args.atoms.now c.args.first c.loop-k.k _ (omega (arith, c.loop-k-test.true, c.requires)) c.in_ok-push.ensures.items c.loop-k.invariant
