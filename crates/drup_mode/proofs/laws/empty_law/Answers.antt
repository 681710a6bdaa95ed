use Rattle.drup_mode.proofs.EmptyProofs.{empty_shows}
use Rattle.drup_mode.proofs.laws.empty_law.Goals as goal

pub returns : goal.returns
returns c = empty_shows
