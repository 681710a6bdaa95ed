use Rattle.std.proofs.Common.{◌≡◌, length}
use Rattle.proof_check.specs.Assigned.{AreListed}
use Rattle.proof_check.proofs.values.clear_all.Given as goal

abbrev pub invariant-loop-var : goal.invariant-loop-var
invariant-loop-var l = record {
  listed : AreListed l.truths.items l.given.items;
  size : length l.truths.items ≡ length l.initial.truths.items;
}

abbrev pub decreases-loop-var : goal.decreases-loop-var
decreases-loop-var l = goal.left-loop-var l
