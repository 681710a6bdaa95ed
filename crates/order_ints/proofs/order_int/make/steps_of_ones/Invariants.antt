use Rattle.std.proofs.Common.{◌≡◌, ◌+◌, ◌-◌, ◌++◌}
use Rattle.order_ints.specs.OrderMade.{unit_steps}
use Rattle.order_ints.proofs.order_int.make.steps_of_ones.Given as goal

-- the steps so far and those that are left are all steps
abbrev pub invariant-loop-k : goal.invariant-loop-k
invariant-loop-k l = l.steps.items ++ unit_steps (l.first_var + l.k) (l.count - l.k) ≡ unit_steps l.first_var l.count
