use Rattle.dimacs_read.proofs.Taken.{name_read, name_taken}
use Rattle.dimacs_read.proofs.draft.DraftText.take_name.Goals as goal

pub returns-in_ok-added-in-Some : goal.returns-in_ok-added-in-Some
returns-in_ok-added-in-Some c =
    let read = name_read c.in_ok-entry.field-0 c.args.line.now c.in-Some.entry c.in_ok-entry.ensures c.in-Some.is in
    name_taken c.in_ok-added-in-Some.added c.args.self.now c.add_entry.new.self c.args.line.now c.in-Some.entry read.0 read.1 c.in_ok-added-in-Some.ensures
