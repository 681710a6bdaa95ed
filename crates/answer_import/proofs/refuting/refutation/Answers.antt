use Rattle.clause_rings.proofs.Ascending.{ascending-apart}
use Rattle.answer_import.proofs.refuting.refutation.Goals as goal

pub import_refutation-requires-clause-apart : goal.import_refutation-requires-clause-apart
import_refutation-requires-clause-apart c = ascending-apart c.args.cnf c.requires.ascend

pub import_refutation-requires-in-Of-clause-apart : goal.import_refutation-requires-in-Of-clause-apart
import_refutation-requires-in-Of-clause-apart c = ascending-apart c.args.cnf c.requires.ascend
