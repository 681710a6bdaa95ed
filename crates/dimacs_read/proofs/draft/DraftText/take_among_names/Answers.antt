use Rattle.dimacs_read.proofs.Taken.{among_taken}
use Rattle.dimacs_read.proofs.draft.DraftText.take_among_names.Goals as goal

pub returns : goal.returns
returns c = among_taken c.in_ok-take_name.field-0 c.in_ok-taken.taken c.args.self.now c.take_name.new.self c.take_behind_names.new.self c.args.line.now c.in_ok-take_name.ensures c.if-branch.false c.in_ok-taken.ensures
