use Rattle.core_cost.proofs.Bounds.{amo-bound}
use Rattle.core_cost.proofs.laws.amo_law.Goals as goal

pub returns : goal.returns
returns c = amo-bound
