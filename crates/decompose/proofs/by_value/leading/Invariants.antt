use Rattle.std.proofs.Common.{◌≡◌, ◌≤◌, ◌++◌, drop, length}
use Rattle.decompose.specs.MarksByValue.{leading}
use Rattle.decompose.proofs.by_value.leading.Given as goal

-- the atoms so far and those in front of the marks that are left are all
abbrev pub invariant-loop-mark : goal.invariant-loop-mark
invariant-loop-mark l = record {
  few : length l.atoms.items ≤ l.mark-index;
  written : l.atoms.items ++ leading l.value (drop l.mark-index l.marks) ≡ leading l.value l.marks;
}
