use Rattle.std.proofs.Common.{◌∙◌}
use Rattle.statement_lower.proofs.QueueSteps.{sum-vars}
use Rattle.statement_lower.proofs.compared_sums.fresh_sum.Goals as goal

pub from_values-requires-clause-variables : goal.from_values-requires-clause-variables
from_values-requires-clause-variables c =
    sum-vars c.args.vars c.args.a.now c.args.b.now c.deref.result.now (c.deref.ensures.value ∙ c.in_ok-values.ensures.shape) c.requires.room
