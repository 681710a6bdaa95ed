use Rattle.std.proofs.Common.{◌≡◌, ◌++◌, drop}
use Rattle.core_forms.specs.WellFormed.{AreSound}
use Rattle.equation_runs.specs.BoundRows.{literals, lower_atoms}
use Rattle.equation_runs.proofs.bounds.lower_literals.Given as goal

-- those so far and those of the members that are left are all
abbrev pub invariant-loop-a : goal.invariant-loop-a
invariant-loop-a l = record {
  found : l.found.items ++ literals (lower_atoms l.k l.all.high (drop l.a-index l.ints)) ≡ literals (lower_atoms l.k l.all.high l.ints);
  sound : AreSound (drop l.a-index l.ints);
}
