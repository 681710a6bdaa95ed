use Rattle.std.proofs.Common.{refl}
use Rattle.ledger_check.specs.Taken.{standing_of}
use Rattle.ledger_check.proofs.OpeningLaws.{unanswered-ledger}
use Rattle.ledger_check.proofs.reading.Reading.unanswered_line.Goals as goal

pub returns-then-is-clause-takes : goal.returns-then-is-clause-takes
returns-then-is-clause-takes c = unanswered-ledger c.args.model.now (standing_of c.args.self.now) c.args.line.now _ c.requires (c.is.ensures.same.0 c.if-is.true) refl
