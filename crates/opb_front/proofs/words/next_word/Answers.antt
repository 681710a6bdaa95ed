use Rattle.std.proofs.Common.{sym, ◌∙◌}
use Rattle.std.proofs.lemmas.List.{take_rest}
use Rattle.opb_front.proofs.Cuts.{words_unfound, first_found, word_result}
use Rattle.opb_front.proofs.words.next_word.Goals as goal

pub returns-in_err-start : goal.returns-in_err-start
returns-in_err-start c = rw c.from_residual.ensures (words_unfound c.args.text.now (sym c.find_word.ensures ∙ c.in_err-start.was))

pub word_length-end-requires-clause-word : goal.word_length-end-requires-clause-word
word_length-end-requires-clause-word c =
    (first_found c.args.text.now _ c.in_ok-start.start (sym c.find_word.ensures ∙ c.in_ok-start.was) (take_rest c.args.text.now c.in_ok-start.start)).1

pub returns : goal.returns
returns c =
    word_result c.args.text.now _ _ c.in_ok-start.start c.word_length-end.result (sym c.find_word.ensures ∙ c.in_ok-start.was) (take_rest c.args.text.now c.in_ok-start.start)
    c.word_length-end.ensures.cut (take_rest _ c.word_length-end.result)
