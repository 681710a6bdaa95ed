use Rattle.std.proofs.Common.{◌≡◌, ◌++◌, drop}
use Rattle.direct_encode.specs.Orders.{order_clauses_above}
use Rattle.direct_encode.proofs.order.push_order.Given as goal

-- those so far and those of the steps that are left are all
abbrev pub invariant-loop-step : goal.invariant-loop-step
invariant-loop-step l =
    l.clauses.items ++ order_clauses_above l.lower (drop l.step-index l.above) ≡ l.initial.clauses.items ++ order_clauses_above l.initial.lower l.above
