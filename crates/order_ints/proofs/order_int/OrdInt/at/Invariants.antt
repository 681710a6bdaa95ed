use Rattle.std.proofs.Common.{◌≡◌}
use Rattle.order_ints.specs.OrderLevels.{first_reaching, at_of}
use Rattle.order_ints.proofs.order_int.OrdInt.at.Given as goal

-- what is left of the walk reaches v at the same atom as the whole
abbrev pub invariant-loop-value : goal.invariant-loop-value
invariant-loop-value l = first_reaching l.v l.value-iterator ≡ at_of l.self l.v
