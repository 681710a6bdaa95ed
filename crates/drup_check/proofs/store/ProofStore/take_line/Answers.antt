use Rattle.std.proofs.Common.{sym, ◌∙◌}
use Rattle.std.proofs.lemmas.Bool.{true≢false}
use Rattle.std.proofs.lemmas.Result.{IfOk-weaker}
use Rattle.bee_text.specs.Gaps.{words_of}
use Rattle.drup_check.proofs.Taken.{line-taken}
use Rattle.drup_check.proofs.store.ProofStore.take_line.Goals as goal

pub returns-else-is_word-clause-taken : goal.returns-else-is_word-clause-taken
returns-else-is_word-clause-taken c =
    IfOk-weaker c.take_said.result _ _
    (λ taken h.
    line-taken c.args.self.now.tiers.db.trail.vars c.args.line.now c.in-Some.first.now (words_of c.in-Some.behind.now) c.in-Some.ensures.words (λ e. true≢false (sym (c.is_word.ensures.1 e) ∙ c.if-is_word.false))
    c.args.self.now.refuted c.args.self.now.tiers c.take_said.new.self.refuted c.take_said.new.self.tiers taken h)
    c.take_said.ensures.taken
