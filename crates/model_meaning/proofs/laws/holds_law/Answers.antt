use Rattle.model_meaning.proofs.TableLaws.{Decides-holds}
use Rattle.model_meaning.proofs.laws.holds_law.Goals as goal

pub returns : goal.returns
returns c = Decides-holds
