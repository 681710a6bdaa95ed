use Rattle.std.proofs.Common.{◌≡◌, drop}
use Rattle.order_ints.specs.OrderRange.{weights}
use Rattle.core_forms.specs.Shapes.{divisor_of}
use Rattle.core_forms.proofs.shapes.shape.Given as goal

-- the weights of the steps from i on, added up, and their greatest common divisor
abbrev pub invariant-loop-i : goal.invariant-loop-i
invariant-loop-i l = (l.span ≡ weights (drop l.i l.steps)) × (l.divisor ≡ divisor_of (drop l.i l.steps))
