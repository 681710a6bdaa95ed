use Rattle.std.proofs.Common.{refl, subst, sym}
use Rattle.ledger_check.specs.Items.{HaveNumbers}
use Rattle.ledger_check.specs.Taken.{standing_of}
use Rattle.ledger_check.proofs.OpeningLaws.{best-ledger, a-best}
use Rattle.ledger_check.proofs.reading.Reading.best_line.Goals as goal

pub returns-then-is-clause-takes : goal.returns-then-is-clause-takes
returns-then-is-clause-takes c = best-ledger c.args.model.now (standing_of c.args.self.now) c.args.line.now _ c.requires (c.is.ensures.same.0 c.if-is.true) refl

pub returns-in-Some-clause-takes : goal.returns-in-Some-clause-takes
returns-in-Some-clause-takes c =
    a-best c.args.model.now (standing_of c.args.self.now) c.args.line.now (standing_of c.take_best.new.self) c.in-Some.bounds c.take_best.result c.requires
    (subst (λ b. HaveNumbers b c.in-Some.bounds) c.has_second.ensures c.in-Some.ensures.read.1) c.in-Some.ensures.read.0
    (λ u may is. c.in-Some.ensures.complete u (subst (λ b. HaveNumbers b u) (sym c.has_second.ensures) may) is) c.take_best.ensures.took
