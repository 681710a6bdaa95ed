use Rattle.std.proofs.Common.{◌≡◌, ℤ, ℕ}
use Rattle.std.specs.BTreeMap.{get}
use Rattle.std.specs.BTreeSet.{contains}
use Rattle.std.specs.Ordering.{int_cmp}
use Rattle.alldiff_rules.specs.Table.{pair_cmp}
use Rattle.equation_runs.specs.TwinRuns.{first_with, is_shared_before}
use Rattle.equation_runs.proofs.twins.shared_values.Given as goal

-- the first members with each two values so far, and the values of twins
abbrev pub invariant-loop-place : goal.invariant-loop-place
invariant-loop-place l = record {
  firsts : (key : ℤ × ℕ) → get pair_cmp l.firsts key ≡ first_with l.ints l.conditions l.place key;
  shared : (v : ℤ) → contains int_cmp l.shared v ≡ is_shared_before l.ints l.conditions l.place v;
}
