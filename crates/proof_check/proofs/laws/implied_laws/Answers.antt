use Rattle.proof_check.proofs.Implied.{start-implied, line-implied, added-implied, known-implied}
use Rattle.proof_check.proofs.laws.implied_laws.Goals as goal

pub returns : goal.returns
returns c = record { start = start-implied; line = line-implied; added = added-implied; known = known-implied }
