use Rattle.opb_model.proofs.Said.{text_says}
use Rattle.opb_model.proofs.laws.text_law.Goals as goal

pub returns : goal.returns
returns c = text_says
