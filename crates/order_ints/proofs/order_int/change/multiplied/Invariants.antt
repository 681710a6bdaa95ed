use Rattle.std.proofs.Common.{◌≡◌, ◌++◌, take, drop}
use Rattle.order_ints.specs.OrderChange.{multiplied_steps}
use Rattle.order_ints.proofs.order_int.change.multiplied.Given as goal

-- the steps so far are multiplied, and those that are left are as they were
abbrev pub invariant-loop-step : goal.invariant-loop-step
invariant-loop-step l = l.step-items ≡ multiplied_steps l.factor (take l.step-index l.fn.steps) ++ drop l.step-index l.fn.steps
