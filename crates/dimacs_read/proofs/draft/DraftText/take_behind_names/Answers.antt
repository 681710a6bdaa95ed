use Rattle.dimacs_read.proofs.Taken.{behind_taken}
use Rattle.dimacs_read.proofs.draft.DraftText.take_behind_names.Goals as goal

pub returns : goal.returns
returns c = behind_taken c.in_ok-take_step.field-0 c.take_numbers.result c.args.self.now c.take_step.new.self c.take_numbers.new.self c.args.line.now c.in_ok-take_step.ensures c.if-branch.false c.take_numbers.ensures
