use Rattle.std.proofs.Common.{◌≡◌, ◌++◌, map, drop, pos, ◌+ℤ◌}
use Rattle.order_ints.specs.OrderLevels.{at_of}
use Rattle.core_forms.specs.WellFormed.{AreSound}
use Rattle.equation_runs.specs.BoundRows.{literals}
use Rattle.equation_runs.proofs.bounds.above_literals.Given as goal

-- those so far and those of the members that are left are all
abbrev pub invariant-loop-a : goal.invariant-loop-a
invariant-loop-a l = record {
  found : l.found.items ++ literals (map (λ a. at_of a (l.range.high +ℤ pos 1)) (drop l.a-index l.ints)) ≡ literals (map (λ a. at_of a (l.range.high +ℤ pos 1)) l.ints);
  sound : AreSound (drop l.a-index l.ints);
}
