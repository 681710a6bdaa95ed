use Rattle.std.proofs.Common.{◌≡◌, ◌+◌, ◌<◌, ◌^◌}
use Rattle.std.specs.VecDeque.{deque_len}
use Rattle.core_cost.specs.Saturated.{saturated}
use Rattle.core_cost.specs.Sums.{spans_of}
use Rattle.model_weight.specs.Linear.{weight_of_compared}
use Rattle.model_weight.proofs.linear.compared_weight.Given as goal

abbrev pub invariant-loop-queue : goal.invariant-loop-queue
invariant-loop-queue l =
    (l.weight < 2 ^ 128) × (spans_of l.queue.items < 2 ^ 128)
    × (saturated (l.weight + weight_of_compared l.relation l.queue.items) ≡ saturated (weight_of_compared l.relation l.fn.members.items))

abbrev pub decreases-loop-queue : goal.decreases-loop-queue
decreases-loop-queue l = deque_len l.queue
