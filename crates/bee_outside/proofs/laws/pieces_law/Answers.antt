use Rattle.bee_outside.proofs.ByteLaws.{in_front-append, grown-append}
use Rattle.bee_outside.proofs.laws.pieces_law.Goals as goal

pub returns : goal.returns
returns c = record { in_front = in_front-append; behind = grown-append }
