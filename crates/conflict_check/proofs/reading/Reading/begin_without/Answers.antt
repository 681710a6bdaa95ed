use Rattle.std.proofs.Common.{◌+◌, List, ℤ, refl, sym, ap, ◌∙◌}
use Rattle.std.proofs.lemmas.Bool.{true≢false}
use Rattle.conflict_text.specs.declared.part.Part.TheVariants as part
use Rattle.conflict_text.specs.ConflictLines.{next_without}
use Rattle.conflict_check.specs.Readings.{standing_of}
use Rattle.conflict_check.proofs.Placing.{begins-on, begins-not}
use Rattle.conflict_check.proofs.reading.Reading.begin_without.Goals as goal

pub returns-then-not-is_without : goal.returns-then-not-is_without
returns-then-not-is_without c =
    let s = standing_of c.args.model.now c.args.self.now in
    begins-not s c.args.line.now (next_without s.verdict s.conflict s.begun) c.args.number refl c.requires.next (λ e. true≢false (sym (c.is_without.ensures.1 e) ∙ c.if-not-is_without.true))

pub returns : goal.returns
returns c =
    let s = standing_of c.args.model.now c.args.self.now in
    begins-on s c.args.line.now _ (next_without s.verdict s.conflict s.begun) c.args.number refl c.requires.next (c.is_without.ensures.0 c.if-not-is_without.false)
    (ap (λ (vs : List ℤ). record s { part = part.Values; now = c.args.number; begun = s.begun + 1; values = vs }) (c.from_vec-values.ensures ∙ c.new.ensures.items))
