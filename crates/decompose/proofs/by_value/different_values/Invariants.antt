use Rattle.std.proofs.Common.{◌≡◌, ◌++◌, drop}
use Rattle.decompose.specs.MarksByValue.{marked_values}
use Rattle.decompose.proofs.by_value.different_values.Given as goal

-- the values so far and those of the marks that are left are all
abbrev pub invariant-loop-mark : goal.invariant-loop-mark
invariant-loop-mark l = l.values.items ++ marked_values (drop l.mark-index l.marks) ≡ marked_values l.marks
