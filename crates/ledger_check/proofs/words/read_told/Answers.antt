use Rattle.std.proofs.Common.{◌∙◌, sym, ap, Some, true, false}
use Rattle.ledger_check.specs.declared.told.Told.TheVariants.{Truth}
use Rattle.ledger_check.proofs.WordLaws.{told-tells}
use Rattle.ledger_check.proofs.words.read_told.Goals as goal

pub returns-then-is-clause-complete : goal.returns-then-is-clause-complete
returns-then-is-clause-complete c = λ t form e. ap (λ x. Some x) (told-tells (Truth true) t tt form (sym (c.is.ensures.same.0 c.if-is.true) ∙ e))

pub returns-then-is-2-clause-complete : goal.returns-then-is-2-clause-complete
returns-then-is-2-clause-complete c = λ t form e. ap (λ x. Some x) (told-tells (Truth false) t tt form (sym (c.is-2.ensures.same.0 c.if-is-2.true) ∙ e))
