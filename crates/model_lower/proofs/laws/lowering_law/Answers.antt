use Rattle.model_lower.proofs.LoweringLaw.{lowering_law}
use Rattle.model_lower.proofs.laws.lowering_law.Goals as goal

pub returns : goal.returns
returns c = lowering_law
