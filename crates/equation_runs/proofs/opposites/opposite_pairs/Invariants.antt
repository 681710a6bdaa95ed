use Rattle.std.proofs.Common.{◌≡◌, ℤ, ℕ}
use Rattle.std.specs.BTreeMap.{get}
use Rattle.alldiff_rules.specs.Table.{pair_cmp}
use Rattle.equation_runs.specs.TwinRuns.{first_with}
use Rattle.equation_runs.specs.TwinPairs.{opposite_pairs}
use Rattle.equation_runs.proofs.opposites.opposite_pairs.Given as goal

-- the first members with each two values so far, and the pairs so far
abbrev pub invariant-loop-place : goal.invariant-loop-place
invariant-loop-place l = record {
  firsts : (key : ℤ × ℕ) → get pair_cmp l.firsts key ≡ first_with l.ints l.conditions l.place key;
  pairs : l.pairs.items ≡ opposite_pairs l.ints l.conditions l.place;
}
