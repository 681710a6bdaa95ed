use Rattle.std.proofs.Common.{refl}
use Rattle.bee_cli.proofs.Obeyings.{unread}
use Rattle.bee_cli.proofs.running.follow.Goals as goal

pub returns-in-Err-clause-obeys : goal.returns-in-Err-clause-obeys
returns-in-Err-clause-obeys g c = unread _ _ (record { shelf = refl; out = refl })
