use Rattle.std.proofs.Common.{◌≡◌, drop}
use Rattle.core_cost.specs.Saturated.{saturated}
use Rattle.model_weight.specs.Pairs.{weights_as_greater, weight_of_ascending}
use Rattle.model_weight.proofs.pairs.ascending_weight.Given as goal

abbrev pub invariant-loop-i : goal.invariant-loop-i
invariant-loop-i l =
    (l.weight ≡ saturated (weight_of_ascending (drop l.i l.steps))) × (l.behind ≡ saturated (weights_as_greater (drop l.i l.steps)))
