use Rattle.std.proofs.Common.{sym, ◌∙◌}
use Rattle.std.proofs.lemmas.Bool.{true≢false}
use Rattle.bee_text.specs.Gaps.{words_of}
use Rattle.lrat_check.proofs.Firsts.{skips-empty, skips-comment, hinted-deletion, hinted-zeros}
use Rattle.lrat_check.proofs.kind.is_lrat_text.Goals as goal

pub returns-then-begins_deletion : goal.returns-then-begins_deletion
returns-then-begins_deletion c =
    hinted-deletion c.loop-line.rest.now c.in-Some.line.now c.in-Some.lines.now c.in-Some.ensures.0 c.in-Some.ensures.1 c.in-Some-next_word.first.now (words_of c.in-Some-next_word.behind.now) c.in-Some-next_word.ensures.words
    (λ e. true≢false (sym (c.is_word.ensures.1 e) ∙ c.if-not-is_word.true)) c.begins_deletion.result c.begins_deletion.ensures c.if-begins_deletion.true
    ∙ sym c.loop-line.invariant

pub returns-else-begins_deletion : goal.returns-else-begins_deletion
returns-else-begins_deletion c =
    hinted-zeros c.loop-line.rest.now c.in-Some.line.now c.in-Some.lines.now c.in-Some.ensures.0 c.in-Some.ensures.1 c.in-Some-next_word.first.now (words_of c.in-Some-next_word.behind.now) c.in-Some-next_word.ensures.words
    (λ e. true≢false (sym (c.is_word.ensures.1 e) ∙ c.if-not-is_word.true)) c.begins_deletion.result c.begins_deletion.ensures c.if-begins_deletion.false c.has_two_zeros.result c.has_two_zeros.ensures
    ∙ sym c.loop-line.invariant

pub loop-line-preserved-else-not-is_word : goal.loop-line-preserved-else-not-is_word
loop-line-preserved-else-not-is_word c =
    c.loop-line.invariant
    ∙ skips-comment c.loop-line.rest.now c.in-Some.line.now c.in-Some.lines.now c.in-Some.ensures.0 c.in-Some.ensures.1 c.in-Some-next_word.first.now (words_of c.in-Some-next_word.behind.now) c.in-Some-next_word.ensures.words (c.is_word.ensures.0 c.if-not-is_word.false)

pub loop-line-preserved : goal.loop-line-preserved
loop-line-preserved c =
    c.loop-line.invariant
    ∙ skips-empty c.loop-line.rest.now c.in-Some.line.now c.in-Some.lines.now c.in-Some.ensures.0 c.in-Some.ensures.1 c.in_default-next_word.ensures.words
