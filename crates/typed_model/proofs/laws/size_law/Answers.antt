use Rattle.typed_model.proofs.ModelSizes.{size-model_of}
use Rattle.typed_model.proofs.TextSizes.{text-size}
use Rattle.typed_model.proofs.laws.size_law.Goals as goal

pub returns : goal.returns
returns c = record { items = size-model_of; text = text-size }
