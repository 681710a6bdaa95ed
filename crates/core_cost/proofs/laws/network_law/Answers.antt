use Rattle.core_cost.proofs.NetworkLaws.{unit_sum-equation}
use Rattle.core_cost.proofs.Monotone.{first_side-floor, second_side-floor, one_step-floor}
use Rattle.core_cost.proofs.laws.network_law.Goals as goal

pub returns : goal.returns
returns c = record { unit_sum = unit_sum-equation; first_side = first_side-floor; second_side = second_side-floor; one_step = one_step-floor }
