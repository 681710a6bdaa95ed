use Rattle.std.proofs.Common.{arith}
use Rattle.clause_rings.proofs.Ascending.{ascending-apart}
use Rattle.sat_front.proofs.Reading.{read_in_range, read_in_order}
use Rattle.sat_rows.proofs.proving.told.Goals as goal

pub check_drup-requires-clause-few : goal.check_drup-requires-clause-few
check_drup-requires-clause-few c = omega (arith, (read_in_range _ c.in-Ok.cnf c.in-Ok.ensures.read).1)

pub check_drup-requires-clause-in_range : goal.check_drup-requires-clause-in_range
check_drup-requires-clause-in_range c = (read_in_range _ c.in-Ok.cnf c.in-Ok.ensures.read).0

pub check_drup-requires-clause-apart : goal.check_drup-requires-clause-apart
check_drup-requires-clause-apart c = ascending-apart c.in-Ok.cnf (read_in_order _ c.in-Ok.cnf c.in-Ok.ensures.read).0
