use Rattle.std.proofs.Common.{◌≡◌, ◌<◌, ◌^◌, ◌++◌, ◌||◌}
use Rattle.std.specs.Prelude.{unsigned_abs}
use Rattle.std.specs.BTreeSet.{contains}
use Rattle.std.specs.List.{AllByRecursion}
use Rattle.std.specs.Ordering.{int_cmp}
use Rattle.order_ints.specs.OrderLevels.{values_of}
use Rattle.equation_runs.specs.DifferentRuns.{apart_pairs}
use Rattle.equation_runs.proofs.DifferentSteps.{told, values_in}
use Rattle.equation_runs.proofs.different.push_each_apart.Given as goal

-- those so far and those at the values that are left are all
abbrev pub invariant-loop-value : goal.invariant-loop-value
invariant-loop-value l = record {
  near : AllByRecursion (λ level. unsigned_abs level.0 < 2 ^ 100) l.value-iterator;
  run : l.run.items ++ told (apart_pairs (λ v. contains int_cmp l.taken.held v || contains int_cmp l.taken.shared v) l.a (values_in l.value-iterator)) ≡ l.initial.run.items ++ told (apart_pairs (λ v. contains int_cmp l.taken.held v || contains int_cmp l.taken.shared v) l.a (values_of l.a));
  same : l.walk.int.now ≡ l.a;
}
