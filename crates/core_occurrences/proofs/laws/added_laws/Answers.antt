use Rattle.core_occurrences.proofs.Lawful.{added_behind, added_elsewhere, added_occurs}
use Rattle.core_occurrences.proofs.laws.added_laws.Goals as goal

pub returns-clause-behind : goal.returns-clause-behind
returns-clause-behind c = added_behind

pub returns-clause-elsewhere : goal.returns-clause-elsewhere
returns-clause-elsewhere c = added_elsewhere

pub returns-clause-occurs : goal.returns-clause-occurs
returns-clause-occurs c = added_occurs
