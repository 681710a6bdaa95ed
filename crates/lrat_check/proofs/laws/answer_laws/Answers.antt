use Rattle.lrat_check.proofs.Exact.{proof-fits, fault-same}
use Rattle.lrat_check.proofs.laws.answer_laws.Goals as goal

pub returns-clause-proofs : goal.returns-clause-proofs
returns-clause-proofs c = proof-fits c.text_laws.ensures.bytes

pub returns-clause-faults : goal.returns-clause-faults
returns-clause-faults c = fault-same c.text_laws.ensures.bytes
