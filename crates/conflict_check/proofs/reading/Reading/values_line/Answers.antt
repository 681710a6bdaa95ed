use Rattle.std.proofs.Common.{length, sym, ◌∙◌}
use Rattle.std.proofs.lemmas.Bool.{true≢false}
use Rattle.conflict_check.specs.Readings.{standing_of}
use Rattle.conflict_check.proofs.Placing.{no-more, not-met, met-goes}
use Rattle.conflict_check.proofs.reading.Reading.values_line.Goals as goal

pub returns-then-not-is_met : goal.returns-then-not-is_met
returns-then-not-is_met c =
    not-met (standing_of c.args.model.now c.args.self.now) c.args.line.now
    (no-more (length c.args.self.now.given.values) (length c.args.model.now.decls) c.wants_value.result c.wants_value.ensures c.if-wants_value.false)
    (λ h. true≢false (sym (c.is_met.ensures.1 h) ∙ c.if-not-is_met.true))

pub returns : goal.returns
returns c =
    met-goes (standing_of c.args.model.now c.args.self.now) c.args.line.now _ c.go_on.result (c.is_met.ensures.0 c.if-not-is_met.false) c.go_on.ensures
