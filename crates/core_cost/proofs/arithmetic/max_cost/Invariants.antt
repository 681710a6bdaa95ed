use Rattle.std.proofs.Common.{◌≡◌, ◌+◌, ◌<◌, ◌^◌, drop}
use Rattle.core_cost.specs.Saturated.{saturated}
use Rattle.core_cost.specs.Arithmetic.{cost_of_max, cost_of_members}
use Rattle.core_cost.proofs.arithmetic.max_cost.Given as goal

abbrev pub invariant-loop-steps : goal.invariant-loop-steps
invariant-loop-steps l =
    (l.cost < 2 ^ 128) × (saturated (l.cost + cost_of_members (drop l.steps-index l.members)) ≡ saturated (cost_of_max l.members l.greatest))
