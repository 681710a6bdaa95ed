use Rattle.std.proofs.Common.{arith}
use Rattle.core_cost.proofs.SumLaws.{sum-step}
use Rattle.core_cost.proofs.sums.sum_cost.Goals as goal

pub loop-queue-preserved : goal.loop-queue-preserved
loop-queue-preserved c =
    let step = sum-step c.loop-queue.queue.items c.take_front-first.new.queue.items c.take_front-second.new.queue.items c.push_back.new.self.items
    c.take_front-first.result c.take_front-second.result c.fresh_sum-sum.result
    c.take_front-first.ensures c.take_front-second.ensures c.fresh_sum-sum.ensures c.in_ok-push_back.ensures.items
    (omega (arith, c.loop-queue.queue.ok.0)) in
    (omega arith, omega (arith, step.1), omega (arith, step.0))
