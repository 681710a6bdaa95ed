use Rattle.std.proofs.Common.{arith}
use Rattle.model_weight.proofs.Queues.{queue-step}
use Rattle.model_weight.proofs.linear.compared_weight.Goals as goal

pub loop-queue-preserved : goal.loop-queue-preserved
loop-queue-preserved c =
    let step = queue-step c.args.relation c.loop-queue.queue.items c.take_front-first.new.queue.items c.take_front-second.new.queue.items c.push_back.new.self.items
    c.take_front-first.result c.take_front-second.result c.fresh_sum-sum.result
    c.take_front-first.ensures c.take_front-second.ensures c.fresh_sum-sum.ensures c.in_ok-push_back.ensures.items
    (omega (arith, c.loop-queue.queue.ok.0)) in
    (omega arith, omega (arith, step.1), omega (arith, step.0))
