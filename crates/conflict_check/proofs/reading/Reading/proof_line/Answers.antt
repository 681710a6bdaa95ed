use Rattle.std.proofs.Common.{sym, ◌∙◌}
use Rattle.std.proofs.lemmas.Bool.{true≢false}
use Rattle.conflict_check.specs.Readings.{standing_of}
use Rattle.conflict_check.proofs.Placing.{not-concluded, concluded-goes}
use Rattle.conflict_check.proofs.reading.Reading.proof_line.Goals as goal

pub derived_line-requires : goal.derived_line-requires
derived_line-requires c = λ h. true≢false (sym (c.begins_word.ensures.1 h) ∙ c.if-not-begins_word.true)

pub returns-then-not-is_concluded : goal.returns-then-not-is_concluded
returns-then-not-is_concluded c =
    not-concluded (standing_of c.args.model.now c.args.self.now) c.args.line.now (c.begins_word.ensures.0 c.if-not-begins_word.false)
    (λ h. true≢false (sym (c.is_concluded.ensures.1 h) ∙ c.if-not-is_concluded.true))

pub returns : goal.returns
returns c =
    concluded-goes (standing_of c.args.model.now c.args.self.now) c.args.line.now (standing_of c.args.model.now c.go_on.new.self) c.go_on.result (c.begins_word.ensures.0 c.if-not-begins_word.false)
    (c.is_concluded.ensures.0 c.if-not-is_concluded.false) c.go_on.ensures
