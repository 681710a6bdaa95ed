use Rattle.std.proofs.Common.{◌≡◌, ◌+◌, drop}
use Rattle.order_ints.specs.OrderRange.{weights}
use Rattle.order_ints.proofs.order_int.OrdInt.high.Given as goal

-- the weights so far and those that are left are all weights
abbrev pub invariant-loop-step : goal.invariant-loop-step
invariant-loop-step l = l.weights + weights (drop l.step-index l.step-items) ≡ weights l.step-items
