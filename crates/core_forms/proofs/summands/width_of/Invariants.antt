use Rattle.std.proofs.Common.{◌≡◌, ◌+◌, drop}
use Rattle.order_ints.specs.OrderRange.{weights}
use Rattle.core_forms.proofs.summands.width_of.Given as goal

-- those so far and those of what is left are all
abbrev pub invariant-loop-step : goal.invariant-loop-step
invariant-loop-step l = l.width + weights (drop l.step-index l.steps) ≡ weights l.steps
