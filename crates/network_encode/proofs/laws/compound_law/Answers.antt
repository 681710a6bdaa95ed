use Rattle.network_encode.proofs.NetworkLaws.{compound_cost, compound_parity, compound_amo, compound_sum}
use Rattle.network_encode.proofs.laws.compound_law.Goals as goal

pub returns-clause-cost : goal.returns-clause-cost
returns-clause-cost c = compound_cost

pub returns-clause-parity : goal.returns-clause-parity
returns-clause-parity c = compound_parity

pub returns-clause-amo : goal.returns-clause-amo
returns-clause-amo c = compound_amo

pub returns-clause-sum : goal.returns-clause-sum
returns-clause-sum c = compound_sum
