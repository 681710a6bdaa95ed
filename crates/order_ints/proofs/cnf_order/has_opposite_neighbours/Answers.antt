-- Literals in order have a literal and its negation exactly where two neighbours have one variable.
use Rattle.std.proofs.Common.{arith}
use Rattle.order_ints.proofs.Opposites.{opposites_found, opposites_absent}
use Rattle.order_ints.proofs.cnf_order.has_opposite_neighbours.Goals as goal

pub returns-then-literals-i : goal.returns-then-literals-i
returns-then-literals-i c = λ ls e. opposites_found ls c.args.literals.now _ c.loop-i.i _ e (omega arith) (omega arith) c.if-literals-i.true

pub returns : goal.returns
returns c = λ ls e. opposites_absent ls c.args.literals.now e (λ k d h. c.loop-i.invariant k d (omega (arith, h)))
