use Rattle.std.proofs.Common.{◌+◌}
use Rattle.proof_import.proofs.Steps.{AreBelowBefore}
use Rattle.proof_import.proofs.finder.are_within.Given as goal

-- the literals before the one at hand are of so many variables
abbrev pub invariant-loop-i : goal.invariant-loop-i
invariant-loop-i l = AreBelowBefore (l.vars + 1) l.lits l.i
