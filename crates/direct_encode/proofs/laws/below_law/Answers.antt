use Rattle.direct_encode.proofs.Places.{below-clauses_of}
use Rattle.direct_encode.proofs.laws.below_law.Goals as goal

pub returns : goal.returns
returns c = below-clauses_of
