use Rattle.std.proofs.Common.{◌∙◌}
use Rattle.network_encode.proofs.Turns.{wires-made}
use Rattle.network_encode.proofs.wires.wire_steps.Goals as goal

pub returns : goal.returns
returns c =
    c.from_vec.ensures
    ∙ wires-made _ _ _ _ _ c.args.weight c.args.next c.args.odd c.args.even c.pairs-pairs.result c.in_ok-steps.ensures.items c.pairs-pairs.ensures c.in_ok-push_steps.ensures c.in_ok-push_steps-2.ensures c.in_ok-push_steps-3.ensures c.in_ok-push_steps-4.ensures
