use Rattle.std.proofs.Common.{◌<◌, ℤ}
use Rattle.std.specs.BTreeMap.{get}
use Rattle.std.specs.Ordering.{int_cmp}
use Rattle.alldiff_rules.specs.Members.{IsHolderAt}
use Rattle.alldiff_rules.specs.Table.{Shows}
use Rattle.alldiff_rules.proofs.narrow.holders.Given as goal

abbrev pub invariant-loop-place : goal.invariant-loop-place
invariant-loop-place l = (v : ℤ) → Shows (λ i. (i < l.place) × IsHolderAt l.ints l.conditions l.upper v i) (get int_cmp l.table v)
