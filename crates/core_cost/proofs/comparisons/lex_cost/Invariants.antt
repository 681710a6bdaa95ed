use Rattle.std.proofs.Common.{◌≡◌, ◌+◌, ◌<◌, ◌^◌, drop}
use Rattle.core_cost.specs.Saturated.{saturated}
use Rattle.core_cost.specs.Comparisons.{cost_of_lex}
use Rattle.core_cost.proofs.ListSteps.{cost_before}
use Rattle.core_cost.proofs.comparisons.lex_cost.Given as goal

abbrev pub invariant-loop-pair : goal.invariant-loop-pair
invariant-loop-pair l =
    (l.cost < 2 ^ 128) × (saturated (l.cost + cost_before (drop l.pair-index l.before)) ≡ saturated (cost_of_lex l.pairs))
