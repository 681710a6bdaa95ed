use Rattle.weigh_mode.proofs.Answered.{weighs-as-refused}
use Rattle.weigh_mode.proofs.laws.refusal_law.Goals as goal

pub returns : goal.returns
returns c = weighs-as-refused
