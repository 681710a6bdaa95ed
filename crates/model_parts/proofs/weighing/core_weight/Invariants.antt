use Rattle.std.proofs.Common.{◌≡◌, ◌+◌, ◌<◌, ◌^◌, length}
use Rattle.core_cost.specs.Saturated.{saturated}
use Rattle.model_parts.specs.CoreWeight.{definitions_in, core_weight}
use Rattle.model_parts.proofs.weighing.core_weight.Given as goal

abbrev pub invariant-loop-item : goal.invariant-loop-item
invariant-loop-item l = record {
  fits : l.heavy < 2 ^ 128;
  weight : saturated (l.heavy + definitions_in l.left) ≡ saturated (core_weight l.fn.model);
}

abbrev pub decreases-loop-item : goal.decreases-loop-item
decreases-loop-item l = length l.left
