use Rattle.std.proofs.Common.{◌≡◌, ℤ}
use Rattle.std.specs.BTreeSet.{contains}
use Rattle.std.specs.Ordering.{int_cmp}
use Rattle.equation_runs.specs.DifferentRuns.{is_held_before}
use Rattle.equation_runs.proofs.different.held_values.Given as goal

-- the set has the values of the sure constants so far
abbrev pub invariant-loop-place : goal.invariant-loop-place
invariant-loop-place l = (v : ℤ) → contains int_cmp l.held v ≡ is_held_before l.ints l.conditions l.place v
