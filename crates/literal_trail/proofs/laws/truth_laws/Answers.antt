use Rattle.literal_trail.proofs.Entries.{entry_of-at, entry_of-found, entry_of-stays, entry_of-free_before, truth_in-stays}
use Rattle.literal_trail.proofs.laws.truth_laws.Goals as goal

pub returns-clause-at_place : goal.returns-clause-at_place
returns-clause-at_place c = λ t j is below. entry_of-at t.entries j below (is.fresh j below)

pub returns-clause-place : goal.returns-clause-place
returns-clause-place c = λ entries v e given. let found = entry_of-found entries v e given in (found.var, (found.place, found.below, found.is))

pub returns-clause-entry_stays : goal.returns-clause-entry_stays
returns-clause-entry_stays c = entry_of-stays

pub returns-clause-free_before : goal.returns-clause-free_before
returns-clause-free_before c = entry_of-free_before

pub returns-clause-truth_stays : goal.returns-clause-truth_stays
returns-clause-truth_stays c = truth_in-stays
