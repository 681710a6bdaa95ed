use Rattle.std.proofs.Common.{refl, sym, ◌∙◌}
use Rattle.std.proofs.lemmas.Bool.{true≢false}
use Rattle.conflict_text.specs.ConflictLines.{next_without}
use Rattle.conflict_check.specs.Readings.{standing_of}
use Rattle.conflict_check.proofs.Placing.{ends-on, ends-not}
use Rattle.conflict_check.proofs.reading.Reading.end_text.Goals as goal

pub returns-then-not-is : goal.returns-then-not-is
returns-then-not-is c =
    let s = standing_of c.args.model.now c.args.self.now in
    ends-not s c.args.line.now (next_without s.verdict s.conflict s.begun) refl c.requires (λ e. true≢false (sym (c.is.ensures.same.1 e) ∙ c.if-not-is.true))

pub returns : goal.returns
returns c =
    let s = standing_of c.args.model.now c.args.self.now in
    ends-on s c.args.line.now _ (next_without s.verdict s.conflict s.begun) refl c.requires (c.is.ensures.same.0 c.if-not-is.false) refl
