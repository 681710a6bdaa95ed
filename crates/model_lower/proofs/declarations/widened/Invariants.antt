use Rattle.std.proofs.Common.{◌≡◌, take}
use Rattle.order_ints.specs.OrderMade.{AreSmall}
use Rattle.model_lower.proofs.declarations.widened.Given as goal

-- those so far are the first values, and small
abbrev pub invariant-loop-value : goal.invariant-loop-value
invariant-loop-value l = (l.wide.items ≡ take l.value-index l.values) × AreSmall l.wide.items
