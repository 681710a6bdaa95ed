use Rattle.std.proofs.Common.{◌∙◌, sym, ap, drop, length, arith}
use Rattle.std.proofs.lemmas.List.{append-nil}
use Rattle.answer_document.specs.Verdicts.{bound_words}
use Rattle.ledger_check.proofs.LineWords.{pieces-of-best}
use Rattle.ledger_check.proofs.lines.read_best.Goals as goal

pub returns-in_err-bounds-clause-complete : goal.returns-in_err-bounds-clause-complete
returns-in_err-bounds-clause-complete c = λ b h e.
    let p = c.split_words-words.ensures.pieces ∙ pieces-of-best c.args.two c.args.line.now b h e in
    let q = ap (drop 1) (sym c.in_ok-next_word.ensures.piece ∙ p) ∙ sym (append-nil (bound_words b)) in
    let r = c.in_err-bounds.ensures.complete b _ h q in
    absurd (cc)

pub returns-in-None-clause-complete : goal.returns-in-None-clause-complete
returns-in-None-clause-complete c = λ b h e.
    let p = c.split_words-words.ensures.pieces ∙ pieces-of-best c.args.two c.args.line.now b h e in
    let q = ap (drop 1) (sym c.in_ok-next_word.ensures.piece ∙ p) ∙ sym (append-nil (bound_words b)) in
    (c.in_ok-bounds.ensures.complete b _ h q).0

pub returns-in-Some-clause-complete : goal.returns-in-Some-clause-complete
returns-in-Some-clause-complete c = λ b h e.
    let p = c.split_words-words.ensures.pieces ∙ pieces-of-best c.args.two c.args.line.now b h e in
    let q = ap (drop 1) (sym c.in_ok-next_word.ensures.piece ∙ p) ∙ sym (append-nil (bound_words b)) in
    let r = (c.in_ok-bounds.ensures.complete b _ h q).1 in
    absurd (omega (arith, ap length (sym r ∙ c.in-Some.ensures.piece)))
