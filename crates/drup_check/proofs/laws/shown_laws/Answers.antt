use Rattle.drup_check.proofs.Implied.{shown_is_implied, none_where_empty, shown_by_more}
use Rattle.drup_check.proofs.laws.shown_laws.Goals as goal

pub returns-clause-implied : goal.returns-clause-implied
returns-clause-implied c = shown_is_implied

pub returns-clause-empty : goal.returns-clause-empty
returns-clause-empty c = none_where_empty

pub returns-clause-more : goal.returns-clause-more
returns-clause-more c = shown_by_more
