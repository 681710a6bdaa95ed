use Rattle.std.proofs.Common.{sym, ap, ◌∙◌}
use Rattle.std.proofs.lemmas.Bool.{true≢false}
use Rattle.bee_text.specs.Gaps.{words_of}
use Rattle.sat_front.proofs.Lists.{said_next}
use Rattle.sat_front.proofs.draft.CnfDraft.take_next.Goals as goal

pub returns-in_ok-taken-in-Some : goal.returns-in_ok-taken-in-Some
returns-in_ok-taken-in-Some c =
    said_next c.args.self.now c.args.line.now c.in-Some.first.now (words_of c.in-Some.behind.now) c.take_said.new.self c.in_ok-taken-in-Some.taken
    (ap (λ s. s.ended) (sym c.self.view_is) ∙ c.if-self.false) c.in-Some.ensures.words (λ e. true≢false (sym (c.is_word.ensures.1 e) ∙ c.if-is_word.false)) c.in_ok-taken-in-Some.ensures
