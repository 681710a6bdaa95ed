use Rattle.decode_mode.proofs.Answered.{decode-answered}
use Rattle.decode_mode.proofs.laws.answer_law.Goals as goal

pub returns : goal.returns
returns c = decode-answered
