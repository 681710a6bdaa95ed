use Rattle.std.proofs.Common.{◌∙◌, ◌+◌, ◌^◌, sym, ap, Some, arith}
use Rattle.order_ints.specs.declared.atom.Atom.TheVariants.{True, False}
use Rattle.ledger_text.proofs.Spelled.{atom_word_tells}
use Rattle.ledger_text.proofs.words.read_atom.Goals as goal

pub returns-then-is-clause-complete : goal.returns-then-is-clause-complete
returns-then-is-clause-complete c = λ a h e.
    ap Some (atom_word_tells (2 ^ 27 + 1) (2 ^ 27 + 1) True a (omega arith) (omega arith) tt h (sym (c.is.ensures.same.0 c.if-is.true) ∙ e))

pub returns-then-is-2-clause-complete : goal.returns-then-is-2-clause-complete
returns-then-is-2-clause-complete c = λ a h e.
    ap Some (atom_word_tells (2 ^ 27 + 1) (2 ^ 27 + 1) False a (omega arith) (omega arith) tt h (sym (c.is-else-is.ensures.same.0 c.if-is-2.true) ∙ e))
