use Rattle.bee_outside.proofs.ByteLaws.{told-whole, nothing-read}
use Rattle.bee_outside.proofs.laws.end_law.Goals as goal

pub returns : goal.returns
returns c = record { whole = told-whole; nothing = nothing-read }
