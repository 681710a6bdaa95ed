use Rattle.std.proofs.Common.{◌≡◌, map}
use Rattle.order_ints.specs.OrderLevels.{values_of}
use Rattle.rule_base.specs.Pairs.{first_sought}
use Rattle.equi_rules.specs.CompareRows.{equal_at}
use Rattle.equi_rules.proofs.Beside.{first_beside}
use Rattle.equi_rules.proofs.equality.at_values_of_first.Given as goal

-- what is found at the levels that are left is found at all values
abbrev pub invariant-loop-value : goal.invariant-loop-value
invariant-loop-value l = record {
  found : first_sought l.sought (first_beside l.b l.value-iterator) ≡ first_sought l.sought (map (equal_at l.a l.b) (values_of l.a));
  same : l.walk.int.now ≡ l.b;
}
