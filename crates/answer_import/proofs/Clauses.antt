-- Clauses among which the empty one is.
use Rattle.order_ints.specs.declared.atom.Atom.TheVariants.{False}
use Rattle.order_ints.specs.declared.cnf.Cnf.{Cnf}
use Rattle.order_ints.specs.OrderedClauses.{ClausesAscend}
use Rattle.order_ints.specs.Place.{InRange}
use Rattle.clause_rings.specs.Clauses.{AreApartIn}
use Rattle.clause_rings.proofs.Ascending.{ascending-apart}
use Rattle.objective_bound.specs.Bounds.{with_atom}
use Rattle.objective_bound.proofs.Clauses.{atom-ascend, atom-range}

pub false-range : (cnf : Cnf) → InRange cnf → InRange (with_atom cnf False)
false-range cnf h = atom-range cnf False h tt

pub false-apart : (cnf : Cnf) → ClausesAscend cnf.clauses → AreApartIn (with_atom cnf False)
false-apart cnf h = ascending-apart (with_atom cnf False) (atom-ascend cnf False h)
