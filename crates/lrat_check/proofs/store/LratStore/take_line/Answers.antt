use Rattle.std.proofs.Common.{sym, ◌∙◌}
use Rattle.std.proofs.lemmas.Bool.{true≢false}
use Rattle.std.proofs.lemmas.Result.{IfOk-weaker}
use Rattle.bee_text.specs.Gaps.{words_of}
use Rattle.lrat_check.specs.Stored.{so_far}
use Rattle.lrat_check.proofs.Said.{line_taken}
use Rattle.lrat_check.proofs.store.LratStore.take_line.Goals as goal

pub returns-else-is_word-clause-taken : goal.returns-else-is_word-clause-taken
returns-else-is_word-clause-taken c =
    IfOk-weaker c.take_said.result _ _
    (λ taken h.
    line_taken c.args.cnf.now (so_far c.args.self.now) c.args.line.now c.in-Some.first.now (words_of c.in-Some.behind.now) c.in-Some.ensures.words (λ e. true≢false (sym (c.is_word.ensures.1 e) ∙ c.if-is_word.false)) taken
    (so_far c.take_said.new.self) h)
    c.take_said.ensures.taken
