use Rattle.std.proofs.Common.{◌≡◌}
use Rattle.rule_base.specs.Pairs.{first_sought}
use Rattle.equi_rules.specs.OrderRows.{int_equations, order_equations}
use Rattle.equi_rules.proofs.order.by_order.Given as goal

-- what is found of the integers that are left is found of all
abbrev pub invariant-loop-a : goal.invariant-loop-a
invariant-loop-a l = first_sought l.sought (int_equations l.a-iterator) ≡ first_sought l.sought (order_equations l.core)
