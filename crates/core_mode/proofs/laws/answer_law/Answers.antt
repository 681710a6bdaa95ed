use Rattle.conflict_models.proofs.Faults.{either}
use Rattle.core_mode.proofs.laws.answer_law.Goals as goal

pub returns : goal.returns
returns c = either
