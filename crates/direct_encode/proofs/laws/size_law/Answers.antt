use Rattle.direct_encode.proofs.CoreSizes.{literals-clauses_of}
use Rattle.direct_encode.proofs.laws.size_law.Goals as goal

pub returns : goal.returns
returns c = literals-clauses_of
