use Rattle.model_meaning.proofs.BehindLaws.{behind}
use Rattle.model_meaning.proofs.laws.behind_law.Goals as goal

pub returns : goal.returns
returns c = behind
