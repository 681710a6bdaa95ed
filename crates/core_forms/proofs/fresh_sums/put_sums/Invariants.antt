use Rattle.std.proofs.Common.{◌≡◌, ◌+ℤ◌, ◌++◌, ◌<◌, ◌^◌, map, unsigned_abs}
use Rattle.std.specs.List.{AllByRecursion}
use Rattle.order_ints.specs.OrderLevels.{values_of}
use Rattle.core_forms.proofs.fresh_sums.put_sums.Given as goal

-- those so far and those of what is left of the walk are all
abbrev pub invariant-loop-other : goal.invariant-loop-other
invariant-loop-other l =
    AllByRecursion (λ level. unsigned_abs level.0 < 2 ^ 100) l.other-iterator
    × (l.sums.items ++ map (λ w. l.value +ℤ w) (map (λ level. level.0) l.other-iterator) ≡ l.initial.sums.items ++ map (λ w. l.value +ℤ w) (values_of l.b))
