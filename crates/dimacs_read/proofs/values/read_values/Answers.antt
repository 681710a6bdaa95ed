use Rattle.std.proofs.Common.{arith}
use Rattle.dimacs_read.proofs.Exact.{values_complete, values_exact}
use Rattle.dimacs_read.proofs.values.read_values.Goals as goal

pub returns-clause-complete : goal.returns-clause-complete
returns-clause-complete c = values_complete c.args.cnf.now (omega arith) c.args.text.now (λ v. v.items) c.read_told.result c.read_told.ensures.read c.read_told.ensures.fault

pub returns-clause-exact : goal.returns-clause-exact
returns-clause-exact c = values_exact c.args.cnf.now (omega arith) c.args.text.now (λ v. v.items) c.read_told.result c.read_told.ensures.read c.read_told.ensures.fault
