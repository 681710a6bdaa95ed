use Rattle.std.proofs.Common.{◌≡◌, ◌+◌, ◌++◌, drop}
use Rattle.decompose.specs.DifferingParts.{marks_from}
use Rattle.decompose.proofs.by_value.marks.Given as goal

-- those so far and those of the values that are left are all
abbrev pub invariant-loop-value : goal.invariant-loop-value
invariant-loop-value l = record {
  counted : l.var ≡ l.next_var + l.value-index;
  written : l.marks.items ++ marks_from l.var (drop l.value-index l.values) ≡ marks_from l.next_var l.values;
}
