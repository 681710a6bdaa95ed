use Rattle.dimacs_out.proofs.TextTells.{text_tells_all, stands_for_exactly}
use Rattle.dimacs_out.proofs.laws.text_laws.Goals as goal

pub returns-clause-unique : goal.returns-clause-unique
returns-clause-unique c = text_tells_all

pub returns-clause-exact : goal.returns-clause-exact
returns-clause-exact c = stands_for_exactly
