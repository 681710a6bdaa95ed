use Rattle.core_cost.proofs.ShapeLaws.{IsShape-fresh, IsWithin-fresh, IsShape-units, sum3-units}
use Rattle.core_cost.proofs.laws.fresh_law.Goals as goal

pub returns : goal.returns
returns c = record { shape = IsShape-fresh; within = IsWithin-fresh; units = IsShape-units; unit_sum = sum3-units }
