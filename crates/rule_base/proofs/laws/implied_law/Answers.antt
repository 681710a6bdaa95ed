use Rattle.rule_base.proofs.FoundLaws.{instance-implied}
use Rattle.rule_base.proofs.laws.implied_law.Goals as goal

pub returns : goal.returns
returns c pairs core equal e is = instance-implied pairs core equal e is
