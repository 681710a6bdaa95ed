use Rattle.std.proofs.Common.{◌≡◌, ◌++◌, length}
use Rattle.core_forms.specs.WellFormed.{AreSound}
use Rattle.decompose.specs.DifferingParts.{all_values}
use Rattle.decompose.proofs.by_value.all_values.Given as goal

-- those so far and those of the members that are left are all
abbrev pub invariant-loop-a : goal.invariant-loop-a
invariant-loop-a l = record {
  sound : AreSound l.rest;
  written : l.values.items ++ all_values l.rest ≡ all_values l.ints;
}

abbrev pub decreases-loop-a : goal.decreases-loop-a
decreases-loop-a l = length l.rest
