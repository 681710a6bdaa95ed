use Rattle.std.proofs.Common.{◌≡◌, ◌+◌, ◌++◌, ◌<◌, ◌^◌, length, map, unsigned_abs}
use Rattle.std.specs.List.{AllByRecursion}
use Rattle.order_ints.specs.OrderLevels.{values_of}
use Rattle.decompose.specs.DifferingParts.{mark_cores}
use Rattle.decompose.proofs.differing.put_mark_cores.Given as goal

-- the cores so far and those of the levels that are left are all
abbrev pub invariant-loop-value : goal.invariant-loop-value
invariant-loop-value l = record {
  small : AllByRecursion (λ level. unsigned_abs level.0 < 2 ^ 100) l.value-iterator;
  same : l.walk.int.now ≡ l.a;
  counted : l.var + length (map (λ level. level.0) l.value-iterator) ≡ l.first_var + length (values_of l.a);
  written : l.cores.items ++ mark_cores l.var l.a l.condition (map (λ level. level.0) l.value-iterator) ≡ l.initial.cores.items ++ mark_cores l.first_var l.a l.condition (values_of l.a);
}
