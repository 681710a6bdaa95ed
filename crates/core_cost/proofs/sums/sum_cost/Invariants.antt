use Rattle.std.proofs.Common.{◌≡◌, ◌+◌, ◌<◌, ◌^◌}
use Rattle.std.specs.VecDeque.{deque_len}
use Rattle.core_cost.specs.Saturated.{saturated}
use Rattle.core_cost.specs.Sums.{cost_of_sum, spans_of}
use Rattle.core_cost.proofs.sums.sum_cost.Given as goal

abbrev pub invariant-loop-queue : goal.invariant-loop-queue
invariant-loop-queue l =
    (l.cost < 2 ^ 128) × (spans_of l.queue.items < 2 ^ 128)
    × (saturated (l.cost + cost_of_sum l.queue.items) ≡ saturated (cost_of_sum l.fn.members.items))

abbrev pub decreases-loop-queue : goal.decreases-loop-queue
decreases-loop-queue l = deque_len l.queue
