use Rattle.std.specs.Prelude.{IsTrue}
use Rattle.rule_base.proofs.FoundLaws.{instance-each}
use Rattle.rule_base.proofs.laws.atoms_law.Goals as goal

pub returns : goal.returns
returns c pairs test each e is = instance-each pairs (λ a. IsTrue (test a)) each e is
