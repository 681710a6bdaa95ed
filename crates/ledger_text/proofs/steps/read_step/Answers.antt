use Rattle.std.proofs.Common.{◌∙◌, sym, ap, length, arith}
use Rattle.std.proofs.lemmas.List.{append-nil}
use Rattle.ledger_text.specs.Steps.{step_words}
use Rattle.ledger_text.proofs.StepWords.{pieces_of_step}
use Rattle.ledger_text.proofs.steps.read_step.Goals as goal

pub returns-in_err-line-clause-complete : goal.returns-in_err-line-clause-complete
returns-in_err-line-clause-complete c = λ l h e.
    let p = c.split_words-words.ensures.pieces ∙ pieces_of_step c.args.text.now l h e ∙ sym (append-nil (step_words l)) in
    let q = c.in_err-line.ensures.complete l _ h p in
    absurd (cc)

pub returns-in-None-clause-complete : goal.returns-in-None-clause-complete
returns-in-None-clause-complete c = λ l h e.
    let p = c.split_words-words.ensures.pieces ∙ pieces_of_step c.args.text.now l h e ∙ sym (append-nil (step_words l)) in
    (c.in_ok-line.ensures.complete l _ h p).0

pub returns-in-Some-clause-complete : goal.returns-in-Some-clause-complete
returns-in-Some-clause-complete c = λ l h e.
    let p = c.split_words-words.ensures.pieces ∙ pieces_of_step c.args.text.now l h e ∙ sym (append-nil (step_words l)) in
    let q = (c.in_ok-line.ensures.complete l _ h p).1 in
    absurd (omega (arith, ap length (sym q ∙ c.in-Some.ensures.piece)))
