use Rattle.clause_rings.proofs.Ascending.{ascending-apart}
use Rattle.drup_mode.proofs.making.check_text.Goals as goal

pub check_drup-requires-clause-apart : goal.check_drup-requires-clause-apart
check_drup-requires-clause-apart c = ascending-apart c.args.cnf.now c.requires.ascend
