use Rattle.dimacs_read.proofs.Taken.{before_numbers}
use Rattle.dimacs_read.proofs.draft.DraftText.numbers_fault.Goals as goal

pub returns-in-Some : goal.returns-in-Some
returns-in-Some c = before_numbers c.args.self.now c.args.line.now c.in-Some.numbers.vars c.in-Some.numbers.count c.first_above.result c.requires c.in-Some.ensures c.first_above.ensures
