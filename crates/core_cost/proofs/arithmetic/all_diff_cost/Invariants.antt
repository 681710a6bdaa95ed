use Rattle.std.proofs.Common.{◌≡◌, ◌+◌, ◌<◌, ◌^◌, drop}
use Rattle.core_cost.specs.Saturated.{saturated}
use Rattle.core_cost.specs.Arithmetic.{cost_of_all_diff}
use Rattle.core_cost.proofs.arithmetic.all_diff_cost.Given as goal

abbrev pub invariant-loop-steps : goal.invariant-loop-steps
invariant-loop-steps l =
    (l.cost < 2 ^ 128) × (saturated (l.cost + cost_of_all_diff (drop l.steps-index l.members)) ≡ saturated (cost_of_all_diff l.members))
