use Rattle.std.specs.VecDeque.{deque_len}
use Rattle.statement_lower.proofs.QueueSteps.{Queued}
use Rattle.statement_lower.proofs.compared_sums.compared_made.Given as goal

abbrev pub invariant-loop-queue : goal.invariant-loop-queue
invariant-loop-queue l = Queued l.vars l.relation l.fn.members.ints.items l.queue.vars l.queue.members.items l.queue.cores.items

abbrev pub decreases-loop-queue : goal.decreases-loop-queue
decreases-loop-queue l = deque_len l.queue.members
