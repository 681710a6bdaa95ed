use Rattle.equi_rules.proofs.Found.{instance-implied}
use Rattle.equi_rules.proofs.laws.implied_law.Goals as goal

pub returns : goal.returns
returns c = instance-implied
