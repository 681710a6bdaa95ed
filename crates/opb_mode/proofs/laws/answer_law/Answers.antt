use Rattle.opb_mode.proofs.Ends.{each_answered}
use Rattle.opb_mode.proofs.laws.answer_law.Goals as goal

pub returns : goal.returns
returns c = each_answered
