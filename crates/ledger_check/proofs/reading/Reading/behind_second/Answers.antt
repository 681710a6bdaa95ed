use Rattle.ledger_check.specs.Taken.{standing_of}
use Rattle.ledger_check.proofs.BehindLaws.{second-ends}
use Rattle.ledger_check.proofs.reading.Reading.behind_second.Goals as goal

pub returns-then-is-clause-takes : goal.returns-then-is-clause-takes
returns-then-is-clause-takes c =
    second-ends c.args.model.now (standing_of c.args.self.now) c.args.line.now (standing_of c.finish.new.self) c.requires.part c.requires.other c.finish.result
    (c.is.ensures.same.0 c.if-is.true) c.finish.ensures.took
