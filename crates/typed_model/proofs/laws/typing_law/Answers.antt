use Rattle.typed_model.proofs.ModelShares.{WellTyped-model_of}
use Rattle.typed_model.proofs.laws.typing_law.Goals as goal

pub returns : goal.returns
returns c = WellTyped-model_of
