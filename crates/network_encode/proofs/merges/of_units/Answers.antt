use Rattle.std.proofs.Common.{◌+ℤ◌, refl, ap, ◌∙◌}
use Rattle.network_encode.proofs.Turns.{network-made}
use Rattle.network_encode.proofs.merges.of_units.Goals as goal

pub returns : goal.returns
returns c =
    network-made _ _ _ _ _ _ c.args.sides.0 c.args.sides.1 c.args.c c.args.next _ _ c.pairs-pairs.result c.args.unit c.args.first.now c.args.second.now refl refl c.pairs-pairs.ensures c.in_ok-cores.ensures c.in_ok-push_half_sums.ensures c.in_ok-push_comparators.ensures c.in_ok-push.ensures.items c.in_ok-eq_r.ensures
    (c.merged-sum.ensures ∙ ap (λ steps. record { base = c.args.sides.0.base +ℤ c.args.sides.1.base; steps = steps }) c.in_ok-wire_steps.ensures)
    _ c.from_vec.ensures refl
