use Rattle.std.proofs.Common.{◌≡◌, ◌++◌, drop}
use Rattle.decompose.specs.MarksByValue.{grouped}
use Rattle.decompose.proofs.by_value.grouped.Given as goal

-- the groups so far and those of the values that are left are all
abbrev pub invariant-loop-value : goal.invariant-loop-value
invariant-loop-value l = l.groups.items ++ grouped (drop l.value-index l.values) l.rest ≡ grouped l.values l.marks
