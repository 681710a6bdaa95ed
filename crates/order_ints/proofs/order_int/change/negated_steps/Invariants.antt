use Rattle.std.proofs.Common.{◌≡◌, drop, map}
use Rattle.std.specs.Prelude.{reverse}
use Rattle.order_ints.specs.OrderChange.{negated_step}
use Rattle.order_ints.proofs.order_int.change.negated_steps.Given as goal

-- the steps from i on, from the last one back, are negated
abbrev pub invariant-loop-i : goal.invariant-loop-i
invariant-loop-i l = l.negated.items ≡ map negated_step (reverse (drop l.i l.steps))
