use Rattle.core_occurrences.proofs.Exchanges.{exchanged_occurs}
use Rattle.core_occurrences.proofs.laws.exchanged_laws.Goals as goal

pub returns : goal.returns
returns c = record { occurs = exchanged_occurs }
