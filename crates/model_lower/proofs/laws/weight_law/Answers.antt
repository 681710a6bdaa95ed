use Rattle.model_lower.proofs.LoweringLaw.{weight_law}
use Rattle.model_lower.proofs.laws.weight_law.Goals as goal

pub returns : goal.returns
returns c = weight_law
