use Rattle.std.proofs.Common.{◌≡◌, ◌+◌, ◌/◌, rules, ap, ◌∙◌}
use Rattle.core_cost.specs.Saturated.{saturated}
use Rattle.core_cost.specs.Network.{half_up, half_down, cost_of_unit_sum, cost_over_halves}
use Rattle.core_cost.proofs.NeighbourLaws.{moved-odd-both}
use Rattle.core_cost.proofs.network.network_cost.Goals as goal

pub returns : goal.returns
returns c =
    let odd : c.at-odd.result ≡ saturated (cost_of_unit_sum (half_up c.args.first) (half_up c.args.second)) =
    c.at-odd.ensures (c.args.first / 2) (c.args.second / 2) c.around-halves.ensures
    ∙ moved-odd-both c.args.first c.args.second in
    let even = c.at-even.ensures (c.args.first / 2) (c.args.second / 2) c.around-halves.ensures in
    let over = c.over_halves.ensures _ _ odd even in
    let sum : c.in-Some.wires ≡ c.args.first + c.args.second = search rules in
    over ∙ ap (λ wires. saturated (cost_over_halves (cost_of_unit_sum (half_up c.args.first) (half_up c.args.second)) (cost_of_unit_sum (half_down c.args.first) (half_down c.args.second)) wires c.args.sum_steps)) sum
