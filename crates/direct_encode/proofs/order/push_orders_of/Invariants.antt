use Rattle.std.proofs.Common.{◌≡◌, ◌++◌, length}
use Rattle.direct_encode.specs.Orders.{orders_of}
use Rattle.direct_encode.proofs.order.push_orders_of.Given as goal

abbrev pub invariant-loop-a : goal.invariant-loop-a
invariant-loop-a l = l.clauses.items ++ orders_of l.rest ≡ l.initial.clauses.items ++ orders_of l.initial.rest

abbrev pub decreases-loop-a : goal.decreases-loop-a
decreases-loop-a l = length l.rest
