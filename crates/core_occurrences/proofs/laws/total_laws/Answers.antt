use Rattle.core_occurrences.proofs.Lawful.{added_total, removed_total, grown_total}
use Rattle.core_occurrences.proofs.laws.total_laws.Goals as goal

pub returns-clause-added : goal.returns-clause-added
returns-clause-added c = added_total

pub returns-clause-removed : goal.returns-clause-removed
returns-clause-removed c = removed_total

pub returns-clause-grown : goal.returns-clause-grown
returns-clause-grown c = grown_total
