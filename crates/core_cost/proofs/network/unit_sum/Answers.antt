use Rattle.std.proofs.Common.{◌≡◌, ◌+◌, true, false, arith, sym, ◌∙◌}
use Rattle.core_cost.specs.Saturated.{saturated}
use Rattle.core_cost.specs.Network.{half_up, half_down, has_network, cost_of_unit_sum, cost_of_network}
use Rattle.core_cost.proofs.NetworkLaws.{unit_sum_by_table, unit_sum_by_network}
use Rattle.core_cost.proofs.NeighbourLaws.{moved-above-both}
use Rattle.core_cost.proofs.network.unit_sum.Goals as goal

pub returns-then-not-has_halves : goal.returns-then-not-has_halves
returns-then-not-has_halves c =
    let none : has_network c.args.first c.args.second ≡ false = sym c.has_halves.ensures ∙ c.if-not-has_halves.true in
    let table = unit_sum_by_table c.args.first c.args.second none in
    rw table (omega arith)

pub returns : goal.returns
returns c =
    let stands : has_network c.args.first c.args.second ≡ true = sym c.has_halves.ensures ∙ c.if-not-has_halves.false in
    let network = unit_sum_by_network c.args.first c.args.second stands in
    let odd : c.at-odd.result ≡ saturated (cost_of_unit_sum (half_up c.args.first) (half_up c.args.second)) =
    c.at-odd.ensures c.args.low_first c.args.low_second c.requires.deeper
    ∙ moved-above-both c.args.low_first (half_up c.args.first) c.args.low_second (half_up c.args.second) (omega arith) (omega arith) (omega arith) (omega arith) in
    let even : c.at-even.result ≡ saturated (cost_of_unit_sum (half_down c.args.first) (half_down c.args.second)) =
    c.at-even.ensures c.args.low_first c.args.low_second c.requires.deeper
    ∙ moved-above-both c.args.low_first (half_down c.args.first) c.args.low_second (half_down c.args.second) (omega arith) (omega arith) (omega arith) (omega arith) in
    let over : c.over_halves.result ≡ saturated (cost_of_network c.args.first c.args.second (c.args.first + c.args.second)) = c.over_halves.ensures _ _ odd even in
    rw network (omega arith)
