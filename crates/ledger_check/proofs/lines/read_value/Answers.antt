use Rattle.std.proofs.Common.{◌∙◌, sym, codes, ◌++◌}
use Rattle.ledger_check.specs.Items.{told_word}
use Rattle.ledger_check.proofs.LineWords.{cancel}
use Rattle.ledger_check.proofs.lines.read_value.Goals as goal

pub returns-in_err-word-clause-complete : goal.returns-in_err-word-clause-complete
returns-in_err-word-clause-complete c = λ t form e.
    absurd (c.in_err-word.ensures (told_word t) (cancel c.args.name.now _ (codes " = " ++ told_word t) (sym c.in_ok-told.ensures ∙ e)))

pub returns-clause-complete : goal.returns-clause-complete
returns-clause-complete c = λ t form e.
    let told = cancel c.args.name.now _ (codes " = " ++ told_word t) (sym c.in_ok-told.ensures ∙ e) in
    c.read_told.ensures.complete t form (cancel (codes " = ") _ (told_word t) (sym c.in_ok-word.ensures ∙ told))
