use Rattle.std.proofs.Common.{◌∙◌, ◌∷◌, sym, ap, codes}
use Rattle.ledger_text.proofs.StepWords.{equate_words}
use Rattle.ledger_text.proofs.steps.read_line.Goals as goal

pub returns-in_ok-e-clause-complete : goal.returns-in_ok-e-clause-complete
returns-in_ok-e-clause-complete c = λ l rest h p.
    let behind = c.next_word-2.new.self in
    let word = c.in_ok-next_word.field-0.now in
    let kind = c.is.ensures.same.0 c.if-is.true in
    let read = c.in_ok-kind.ensures.piece ∙ ap (λ k. k ∷ c.next_word.new.self) kind ∙ ap (λ ws. codes "eq" ∷ ws) c.in_ok-next_word.ensures.piece in
    let found = equate_words l rest word behind (sym read ∙ p) in
    let within = rw found.is at h in
    let id = c.in_ok-id.ensures.complete found.id within.0 found.id_is in
    let e = c.in_ok-e.ensures.complete found.e rest within.1 within.2 found.e_is in
    rw found.is (cc, e.1)
