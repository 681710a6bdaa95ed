use Rattle.proof_check.specs.Room.{line_in}
use Rattle.ledger_check.specs.Taken.{standing_of}
use Rattle.ledger_check.proofs.BehindLaws.{a-second-line}
use Rattle.ledger_check.proofs.reading.Reading.second_line.Goals as goal

pub returns-in-Ok-clause-takes : goal.returns-in-Ok-clause-takes
returns-in-Ok-clause-takes c =
    a-second-line c.args.model.now (standing_of c.args.self.now) c.args.line.now (standing_of c.take_second.new.self) c.requires.part (line_in c.in-Ok.head c.read_bytes.new.self)
    c.in_ok-taken-in-Ok.taken c.in-Ok.ensures.read c.in-Ok.ensures.complete c.in_ok-taken-in-Ok.ensures.took
