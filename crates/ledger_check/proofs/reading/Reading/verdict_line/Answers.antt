use Rattle.std.proofs.Common.{subst, sym}
use Rattle.ledger_check.specs.Items.{IsVerdictLine}
use Rattle.ledger_check.specs.Taken.{standing_of}
use Rattle.ledger_check.proofs.OpeningLaws.{a-verdict}
use Rattle.ledger_check.proofs.reading.Reading.verdict_line.Goals as goal

pub returns-in-Some-clause-takes : goal.returns-in-Some-clause-takes
returns-in-Some-clause-takes c =
    a-verdict c.args.model.now (standing_of c.args.self.now) c.args.line.now (standing_of c.take_verdict.new.self) c.in-Some.verdict c.take_verdict.result c.requires
    (subst (λ b. IsVerdictLine b c.in-Some.verdict) c.has_second.ensures c.in-Some.ensures.read.1) c.in-Some.ensures.read.0
    (λ u may is. c.in-Some.ensures.complete u (subst (λ b. IsVerdictLine b u) (sym c.has_second.ensures) may) is) c.take_verdict.ensures.took
