use Rattle.ledger_check.specs.Taken.{standing_of}
use Rattle.ledger_check.proofs.BehindLaws.{ledger-proof, a-step}
use Rattle.ledger_check.proofs.reading.Reading.ledger_line.Goals as goal

pub returns-then-is-clause-takes : goal.returns-then-is-clause-takes
returns-then-is-clause-takes c =
    ledger-proof c.args.model.now (standing_of c.args.self.now) c.args.line.now (standing_of c.begin_proof.new.self) c.requires c.in_ok-begun.begun (c.is.ensures.same.0 c.if-is.true) c.in_ok-begun.ensures.took

pub returns-in-Some-clause-takes : goal.returns-in-Some-clause-takes
returns-in-Some-clause-takes c =
    a-step c.args.model.now (standing_of c.args.self.now) c.args.line.now (standing_of c.take_step.new.self) c.requires c.in-Some.step c.in_ok-taken-in-Some.taken
    c.in-Some.ensures.read.1 c.in-Some.ensures.read.0 c.in-Some.ensures.complete c.in_ok-taken-in-Some.ensures.took
