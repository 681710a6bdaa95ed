use Rattle.std.proofs.Common.{sym, ◌∙◌}
use Rattle.std.proofs.lemmas.List.{take_rest}
use Rattle.bee_text.proofs.GapLemmas.{words_of-unfound, first_word}
use Rattle.bee_text.proofs.gaps.next_word.Goals as goal

pub returns-in_err-start-clause-words : goal.returns-in_err-start-clause-words
returns-in_err-start-clause-words c = rw c.from_residual.ensures (words_of-unfound c.args.text.now (sym c.find_word.ensures ∙ c.in_err-start.was))

pub returns-clause-words : goal.returns-clause-words
returns-clause-words c =
    (first_word c.args.text.now _ _ c.in_ok-start.start c.unwrap_or-end.result c.find_gap.result (sym c.find_word.ensures ∙ c.in_ok-start.was) (take_rest c.args.text.now c.in_ok-start.start) c.find_gap.ensures c.unwrap_or-end.ensures (take_rest _ c.unwrap_or-end.result)).words

pub returns-clause-parts : goal.returns-clause-parts
returns-clause-parts c =
    (first_word c.args.text.now _ _ c.in_ok-start.start c.unwrap_or-end.result c.find_gap.result (sym c.find_word.ensures ∙ c.in_ok-start.was) (take_rest c.args.text.now c.in_ok-start.start) c.find_gap.ensures c.unwrap_or-end.ensures (take_rest _ c.unwrap_or-end.result)).parts

pub returns-clause-word : goal.returns-clause-word
returns-clause-word c =
    (first_word c.args.text.now _ _ c.in_ok-start.start c.unwrap_or-end.result c.find_gap.result (sym c.find_word.ensures ∙ c.in_ok-start.was) (take_rest c.args.text.now c.in_ok-start.start) c.find_gap.ensures c.unwrap_or-end.ensures (take_rest _ c.unwrap_or-end.result)).word
