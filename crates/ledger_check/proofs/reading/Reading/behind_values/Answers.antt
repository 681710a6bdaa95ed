use Rattle.std.proofs.Common.{sym, ◌∙◌}
use Rattle.ledger_check.specs.Taken.{standing_of}
use Rattle.ledger_check.proofs.BehindLaws.{values-ledger, values-end}
use Rattle.ledger_check.proofs.reading.Reading.behind_values.Goals as goal

pub returns-then-is-clause-takes : goal.returns-then-is-clause-takes
returns-then-is-clause-takes c =
    values-ledger c.args.model.now (standing_of c.args.self.now) c.args.line.now (standing_of c.pass_values.new.self) c.requires.part c.requires.none c.in_ok-passed.passed
    (sym c.is_certified.ensures ∙ c.if-is_certified.true) (c.is.ensures.same.0 c.if-is.true) c.in_ok-passed.ensures.took

pub returns-then-is-2-clause-takes : goal.returns-then-is-2-clause-takes
returns-then-is-2-clause-takes c =
    values-end c.args.model.now (standing_of c.args.self.now) c.args.line.now (standing_of c.pass_values-then-is-2.new.self) c.requires.part c.requires.none c.in_ok-ended.ended
    (sym c.is_certified.ensures ∙ c.if-is_certified.false) (c.is-2.ensures.same.0 c.if-is-2.true) c.in_ok-ended.ensures.took
