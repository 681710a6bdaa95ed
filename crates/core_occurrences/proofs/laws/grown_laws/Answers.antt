use Rattle.core_occurrences.proofs.Lawful.{grown_stays, nothing_occurs}
use Rattle.core_occurrences.proofs.laws.grown_laws.Goals as goal

pub returns-clause-stays : goal.returns-clause-stays
returns-clause-stays c = grown_stays

pub returns-clause-nothing : goal.returns-clause-nothing
returns-clause-nothing c = nothing_occurs
