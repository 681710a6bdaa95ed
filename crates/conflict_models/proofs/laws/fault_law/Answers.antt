use Rattle.conflict_models.proofs.Faults.{one-fault, held-fault, either}
use Rattle.conflict_models.proofs.laws.fault_law.Goals as goal

pub returns : goal.returns
returns c = record { one = one-fault; never = held-fault; either = either }
