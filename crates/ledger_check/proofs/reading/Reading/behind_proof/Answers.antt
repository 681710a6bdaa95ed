use Rattle.std.proofs.Common.{sym, ◌∙◌}
use Rattle.ledger_check.specs.Taken.{standing_of}
use Rattle.ledger_check.proofs.BehindLaws.{proof-second, proof-end}
use Rattle.ledger_check.proofs.reading.Reading.behind_proof.Goals as goal

pub returns-then-may_have_second-clause-takes : goal.returns-then-may_have_second-clause-takes
returns-then-may_have_second-clause-takes c =
    proof-second c.args.model.now (standing_of c.args.self.now) c.args.line.now (standing_of c.begin_second.new.self) c.requires.part c.requires.other c.in_ok-begun.begun
    (sym c.may_have_second.ensures ∙ c.if-may_have_second.true) (c.is.ensures.same.0 c.if-is.true) c.in_ok-begun.ensures.took

pub returns-then-is-2-clause-takes : goal.returns-then-is-2-clause-takes
returns-then-is-2-clause-takes c =
    proof-end c.args.model.now (standing_of c.args.self.now) c.args.line.now (standing_of c.finish.new.self) c.requires.part c.requires.other c.finish.result
    (sym c.must_have_second.ensures ∙ c.if-must_have_second.false) (c.is-2.ensures.same.0 c.if-is-2.true) c.finish.ensures.took
