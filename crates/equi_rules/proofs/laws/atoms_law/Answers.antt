use Rattle.std.specs.Prelude.{IsTrue}
use Rattle.equi_rules.proofs.Found.{instance-each, instance-place}
use Rattle.equi_rules.proofs.laws.atoms_law.Goals as goal

pub returns-clause-test : goal.returns-clause-test
returns-clause-test c test core e closed each is = instance-each (λ a. IsTrue (test a)) core e closed each is

pub returns-clause-place : goal.returns-clause-place
returns-clause-place c = instance-place
