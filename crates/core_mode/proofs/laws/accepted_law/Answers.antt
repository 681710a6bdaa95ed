use Rattle.core_mode.proofs.Accepted.{conflicts-accepted}
use Rattle.core_mode.proofs.laws.accepted_law.Goals as goal

pub returns : goal.returns
returns c = conflicts-accepted
