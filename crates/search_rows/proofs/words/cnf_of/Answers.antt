use Rattle.std.proofs.Common.{rules, ◌≡◌, ◌+◌, true, List, subst, sym}
use Rattle.order_ints.specs.declared.literal.Lit.{Lit}
use Rattle.order_ints.specs.Place.{ClausesBelow}
use Rattle.clause_rings.specs.Clauses.{AreApartIn}
use Rattle.search_rows.specs.Clauses.{EachAscends}
use Rattle.search_rows.proofs.Clauses.{each-below, each-apart}
use Rattle.search_rows.proofs.words.cnf_of.Goals as goal

pub returns-clause-in_range : goal.returns-clause-in_range
returns-clause-in_range c =
    let fits : c.are_clauses.result ≡ true = search rules in
    let each = subst (EachAscends c.args.vars) c.deref.ensures.value (c.are_clauses.ensures fits) in
    subst (ClausesBelow (c.args.vars + 1)) (sym c.from_vec.ensures) (each-below c.args.vars c.args.clauses.items each)

pub returns-clause-apart : goal.returns-clause-apart
returns-clause-apart c =
    let fits : c.are_clauses.result ≡ true = search rules in
    let each = subst (EachAscends c.args.vars) c.deref.ensures.value (c.are_clauses.ensures fits) in
    subst (λ (cs : List (List Lit)). AreApartIn (record { vars = c.args.vars; clauses = cs })) (sym c.from_vec.ensures) (each-apart (record { vars = c.args.vars; clauses = c.args.clauses.items }) each)
