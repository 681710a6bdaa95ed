use Rattle.std.proofs.Common.{◌≡◌, ◌++◌, drop}
use Rattle.core_forms.specs.WellFormed.{AreSound}
use Rattle.equation_runs.specs.BoundRows.{literals, upper_atoms}
use Rattle.equation_runs.proofs.bounds.upper_literals.Given as goal

-- those so far and those of the members that are left are all
abbrev pub invariant-loop-a : goal.invariant-loop-a
invariant-loop-a l = record {
  found : l.found.items ++ literals (upper_atoms l.k l.all.low (drop l.a-index l.ints)) ≡ literals (upper_atoms l.k l.all.low l.ints);
  sound : AreSound (drop l.a-index l.ints);
}
