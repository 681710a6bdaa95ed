use Rattle.core_cost.proofs.SumBounds.{sum-bound}
use Rattle.core_cost.proofs.laws.sum_bound_law.Goals as goal

pub returns : goal.returns
returns c = sum-bound
