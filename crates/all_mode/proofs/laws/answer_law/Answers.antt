use Rattle.all_mode.proofs.Lists.{all-answers}
use Rattle.all_mode.proofs.laws.answer_law.Goals as goal

pub returns : goal.returns
returns c = all-answers
