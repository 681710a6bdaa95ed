use Rattle.ledger_check.specs.Taken.{standing_of}
use Rattle.ledger_check.proofs.OpeningLaws.{a-version}
use Rattle.ledger_check.proofs.reading.Reading.version_line.Goals as goal

pub returns-in-Some-clause-takes : goal.returns-in-Some-clause-takes
returns-in-Some-clause-takes c =
    a-version c.args.model.now (standing_of c.args.self.now) c.args.line.now (standing_of c.take_version.new.self) c.in-Some.two c.take_version.result c.requires
    c.in-Some.ensures.read c.in-Some.ensures.complete c.take_version.ensures.took
