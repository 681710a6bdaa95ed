use Rattle.std.proofs.Common.{sym, ◌∙◌}
use Rattle.conflict_check.specs.Readings.{standing_of}
use Rattle.conflict_check.proofs.Placing.{met, not-inside}
use Rattle.conflict_check.proofs.reading.Reading.is_met.Goals as goal

pub returns-then-not-in_domains : goal.returns-then-not-in_domains
returns-then-not-in_domains c = not-inside (standing_of c.args.model.now c.args.self.now) (sym c.in_domains.ensures ∙ c.if-not-in_domains.true)

pub returns : goal.returns
returns c =
    let s = standing_of c.args.model.now c.args.self.now in
    (λ e. met s (sym c.in_domains.ensures ∙ c.if-not-in_domains.false) (c.meets.ensures.0 e), λ m. c.meets.ensures.1 m.holds)
