use Rattle.model_weight.proofs.QueueBounds.{fresh_sum-mono, queue-mono}
use Rattle.model_weight.proofs.laws.queue_law.Goals as goal

pub returns : goal.returns
returns c = record { fresh_sum = fresh_sum-mono; queue = queue-mono }
