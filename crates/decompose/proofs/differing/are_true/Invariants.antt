use Rattle.std.proofs.Common.{◌≡◌, drop}
use Rattle.decompose.specs.DifferingParts.{are_true}
use Rattle.decompose.proofs.differing.are_true.Given as goal

-- all are true where those that are left are
abbrev pub invariant-loop-condition : goal.invariant-loop-condition
invariant-loop-condition l = are_true (drop l.condition-index l.conditions) ≡ are_true l.conditions
