use Rattle.core_cost.proofs.Monotone.{parity-mono, amo-mono, count-mono}
use Rattle.core_cost.proofs.laws.members_law.Goals as goal

pub returns-clause-parity : goal.returns-clause-parity
returns-clause-parity c = parity-mono

pub returns-clause-amo : goal.returns-clause-amo
returns-clause-amo c = amo-mono

pub returns-clause-count : goal.returns-clause-count
returns-clause-count c = count-mono
