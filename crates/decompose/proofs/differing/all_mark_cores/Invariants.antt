use Rattle.std.proofs.Common.{◌≡◌, ◌+◌, ◌++◌, drop, length}
use Rattle.core_forms.specs.WellFormed.{AreSound}
use Rattle.decompose.specs.DifferingParts.{all_values, all_mark_cores}
use Rattle.decompose.proofs.differing.all_mark_cores.Given as goal

-- the cores so far and those of the members that are left are all
abbrev pub invariant-loop-condition : goal.invariant-loop-condition
invariant-loop-condition l = record {
  sound : AreSound l.rest;
  counted : l.var + length (all_values l.rest) ≡ l.next_var + length (all_values l.ints);
  written : l.cores.items ++ all_mark_cores l.var l.rest (drop l.condition-index l.conditions) ≡ all_mark_cores l.next_var l.ints l.conditions;
}
