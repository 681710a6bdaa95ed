use Rattle.std.proofs.Common.{◌≡◌, ◌++◌, ◌<◌, ◌^◌, map, unsigned_abs}
use Rattle.std.specs.List.{AllByRecursion}
use Rattle.order_ints.specs.OrderLevels.{values_of}
use Rattle.core_forms.specs.Sums.{pair_sums}
use Rattle.core_forms.proofs.fresh_sums.different_sums.Given as goal

-- those so far and those of what is left of the walk are all
abbrev pub invariant-loop-value : goal.invariant-loop-value
invariant-loop-value l =
    AllByRecursion (λ level. unsigned_abs level.0 < 2 ^ 100) l.value-iterator
    × (l.sums.items ++ pair_sums (map (λ level. level.0) l.value-iterator) (values_of l.b) ≡ pair_sums (values_of l.a) (values_of l.b))
