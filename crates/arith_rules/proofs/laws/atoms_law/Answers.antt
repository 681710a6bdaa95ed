use Rattle.std.specs.Prelude.{IsTrue}
use Rattle.arith_rules.proofs.Found.{instance-each, instance-below}
use Rattle.arith_rules.proofs.laws.atoms_law.Goals as goal

pub returns-clause-test : goal.returns-clause-test
returns-clause-test c test core e closed each is = instance-each (λ a. IsTrue (test a)) core e closed each is

pub returns-clause-below : goal.returns-clause-below
returns-clause-below c = instance-below
