use Rattle.conflict_analysis.proofs.Accepted.{learned-accepted}
use Rattle.conflict_analysis.proofs.laws.accepted_law.Goals as goal

pub returns : goal.returns
returns c = learned-accepted
