use Rattle.std.proofs.Common.{◌≤◌, length}
use Rattle.fixpoint_queue.proofs.handing.longest.Given as goal

abbrev pub invariant-loop-k : goal.invariant-loop-k
invariant-loop-k l = l.place ≤ length l.lists
