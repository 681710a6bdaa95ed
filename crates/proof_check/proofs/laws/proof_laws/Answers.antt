use Rattle.proof_check.proofs.Implied.{cnf-stays, lines-go-on, lits-fit}
use Rattle.proof_check.proofs.laws.proof_laws.Goals as goal

pub returns : goal.returns
returns c = record { cnf = cnf-stays; lines = lines-go-on; literals = lits-fit }
