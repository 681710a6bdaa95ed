use Rattle.std.proofs.Common.{◌≡◌, ◌++◌}
use Rattle.std.specs.BTreeSet.{contains}
use Rattle.std.specs.Ordering.{int_cmp}
use Rattle.equation_runs.specs.DifferentRuns.{members_pairs}
use Rattle.equation_runs.proofs.DifferentSteps.{told}
use Rattle.equation_runs.proofs.different.push_members.Given as goal

-- those of the members so far are added
abbrev pub invariant-loop-place : goal.invariant-loop-place
invariant-loop-place l = l.run.items ≡ l.initial.run.items ++ told (members_pairs (contains int_cmp l.taken.held) (contains int_cmp l.taken.shared) l.ints l.conditions l.place)
