use Rattle.std.proofs.Common.{◌≤◌, ◌-◌, length}
use Rattle.fixpoint_queue.proofs.handing.first_from.Given as goal

abbrev pub invariant-loop-place : goal.invariant-loop-place
invariant-loop-place l = l.from ≤ l.place

abbrev pub decreases-loop-place : goal.decreases-loop-place
decreases-loop-place l = length l.numbers - l.place
