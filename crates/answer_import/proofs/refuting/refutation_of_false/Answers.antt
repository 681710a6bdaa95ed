use Rattle.std.proofs.Common.{List, sym, subst}
use Rattle.order_ints.specs.declared.literal.Lit.{Lit}
use Rattle.order_ints.specs.Place.{InRange}
use Rattle.clause_rings.specs.Clauses.{AreApartIn}
use Rattle.answer_import.proofs.Clauses.{false-range, false-apart}
use Rattle.answer_import.proofs.refuting.refutation_of_false.Goals as goal

pub check_refutation-requires-clause-in_range : goal.check_refutation-requires-clause-in_range
check_refutation-requires-clause-in_range c =
    subst (λ (cs : List (List Lit)). InRange (record { vars = c.args.cnf.vars; clauses = cs })) (sym c.in_ok-with_atom.ensures) (false-range c.args.cnf c.requires.in_range)

pub check_refutation-requires-clause-apart : goal.check_refutation-requires-clause-apart
check_refutation-requires-clause-apart c =
    subst (λ (cs : List (List Lit)). AreApartIn (record { vars = c.args.cnf.vars; clauses = cs })) (sym c.in_ok-with_atom.ensures) (false-apart c.args.cnf c.requires.ascend)
