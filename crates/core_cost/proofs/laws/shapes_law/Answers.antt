use Rattle.core_cost.proofs.Monotone.{sum3_over-mono}
use Rattle.core_cost.proofs.ShapeLaws.{sum3-mono, sum-mono}
use Rattle.core_cost.proofs.laws.shapes_law.Goals as goal

pub returns : goal.returns
returns c = record { over = sum3_over-mono; sum3 = sum3-mono; sum = sum-mono }
