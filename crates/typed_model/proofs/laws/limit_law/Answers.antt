use Rattle.typed_model.proofs.ModelLimits.{InLimits-model_of}
use Rattle.typed_model.proofs.laws.limit_law.Goals as goal

pub returns : goal.returns
returns c = InLimits-model_of
