use Rattle.std.proofs.Common.{◌≡◌, ◌++◌, ◌<◌, ◌^◌, map, unsigned_abs}
use Rattle.std.specs.List.{AllByRecursion}
use Rattle.order_ints.specs.OrderLevels.{values_of}
use Rattle.decompose.proofs.by_value.put_values.Given as goal

-- those so far and those of the levels that are left are all
abbrev pub invariant-loop-value : goal.invariant-loop-value
invariant-loop-value l = record {
  small : AllByRecursion (λ level. unsigned_abs level.0 < 2 ^ 100) l.value-iterator;
  written : l.values.items ++ map (λ level. level.0) l.value-iterator ≡ l.initial.values.items ++ values_of l.a;
}
