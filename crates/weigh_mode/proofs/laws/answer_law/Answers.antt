use Rattle.weigh_mode.proofs.Answered.{weigh-answered}
use Rattle.weigh_mode.proofs.laws.answer_law.Goals as goal

pub returns : goal.returns
returns c = weigh-answered
