use Rattle.std.proofs.Common.{sym, ap, ◌∙◌}
use Rattle.std.proofs.lemmas.Bool.{true≢false}
use Rattle.bee_text.specs.Gaps.{words_of}
use Rattle.sat_front.proofs.Lists.{no_header}
use Rattle.sat_front.proofs.draft.CnfDraft.take_said.Goals as goal

pub returns-in-None-read_header : goal.returns-in-None-read_header
returns-in-None-read_header c = λ t says.
    no_header c.args.self.now (words_of c.args.line.now) c.args.first.now (words_of c.args.behind.now) t
    (ap (λ s. s.vars) (sym c.self.view_is) ∙ c.in-None.is) c.requires.words
    (λ e. true≢false (sym (c.is_word.ensures.1 e) ∙ c.if-is_word.false)) c.in-None-read_header.ensures says
