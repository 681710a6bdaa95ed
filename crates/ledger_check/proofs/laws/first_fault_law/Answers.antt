use Rattle.ledger_check.proofs.OneFault.{one_first_fault}
use Rattle.ledger_check.proofs.laws.first_fault_law.Goals as goal

pub returns : goal.returns
returns c = one_first_fault
