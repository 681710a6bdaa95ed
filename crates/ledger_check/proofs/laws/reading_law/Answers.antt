use Rattle.ledger_check.proofs.Onward.{whole-valid}
use Rattle.ledger_check.proofs.ValidWhole.{valid-whole}
use Rattle.ledger_check.proofs.laws.reading_law.Goals as goal

pub returns-clause-whole : goal.returns-clause-whole
returns-clause-whole c = whole-valid

pub returns-clause-valid : goal.returns-clause-valid
returns-clause-valid c model text v a lines valid = valid-whole model lines text v a valid
