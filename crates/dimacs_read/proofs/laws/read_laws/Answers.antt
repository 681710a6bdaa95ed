use Rattle.dimacs_read.proofs.Lawful.{written_is_read, read_is_writable, values_satisfy, values_give_assignment}
use Rattle.dimacs_read.proofs.laws.read_laws.Goals as goal

pub returns-clause-written : goal.returns-clause-written
returns-clause-written c = written_is_read

pub returns-clause-writable : goal.returns-clause-writable
returns-clause-writable c = read_is_writable

pub returns-clause-satisfied : goal.returns-clause-satisfied
returns-clause-satisfied c = values_satisfy

pub returns-clause-given : goal.returns-clause-given
returns-clause-given c = values_give_assignment
