use Rattle.order_ints.proofs.PlaceLaws.{ClausesBelow-up, AtomClausesBelow-up}
use Rattle.order_ints.proofs.cnf_laws.bound_law.Goals as goal

pub returns : goal.returns
returns c = λ n m up. (ClausesBelow-up n m up, AtomClausesBelow-up n m up)
