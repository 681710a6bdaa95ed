use Rattle.std.proofs.Common.{◌≡◌, drop}
use Rattle.order_ints.specs.OrderedClauses.{resolved_lits}
use Rattle.order_ints.proofs.ClauseSteps.{in_front}
use Rattle.order_ints.proofs.cnf_order.resolved_literals.Given as goal

-- the literals so far stand in front of those of what is left
abbrev pub invariant-loop-atom : goal.invariant-loop-atom
invariant-loop-atom l =
    in_front l.literals.items (resolved_lits l.view (drop l.atom-index l.clause)) ≡ resolved_lits l.view l.clause
