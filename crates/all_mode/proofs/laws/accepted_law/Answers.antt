use Rattle.all_mode.proofs.Lists.{lists-accepted}
use Rattle.all_mode.proofs.laws.accepted_law.Goals as goal

pub returns : goal.returns
returns c = lists-accepted
