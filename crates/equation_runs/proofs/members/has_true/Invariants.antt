use Rattle.std.proofs.Common.{◌≡◌, drop}
use Rattle.core_forms.specs.Trimmed.{has_true}
use Rattle.equation_runs.proofs.members.has_true.Given as goal

-- whether some member that is left is True
abbrev pub invariant-loop-atom : goal.invariant-loop-atom
invariant-loop-atom l = has_true (drop l.atom-index l.atoms) ≡ has_true l.atoms
