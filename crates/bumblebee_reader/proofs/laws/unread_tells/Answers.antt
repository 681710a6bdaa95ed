use Rattle.bumblebee_reader.proofs.Pulled.{unread_tells_lem}
use Rattle.bumblebee_reader.proofs.laws.unread_tells.Goals as goal

pub returns : goal.returns
returns c = unread_tells_lem
