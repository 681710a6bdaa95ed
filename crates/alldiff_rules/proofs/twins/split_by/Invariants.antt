use Rattle.std.proofs.Common.{◌<◌, ℤ, ℕ}
use Rattle.std.specs.BTreeMap.{get}
use Rattle.alldiff_rules.specs.Table.{pair_cmp, Shows}
use Rattle.alldiff_rules.specs.Twins.{IsSplitAt}
use Rattle.alldiff_rules.proofs.twins.split_by.Given as goal

abbrev pub invariant-loop-place : goal.invariant-loop-place
invariant-loop-place l = (key : ℤ × ℕ) → Shows (λ i. (i < l.place) × IsSplitAt l.ints l.conditions l.atom key.0 key.1 i) (get pair_cmp l.table key)
