use Rattle.arith_rules.proofs.Found.{instance-implied}
use Rattle.arith_rules.proofs.laws.implied_law.Goals as goal

pub returns : goal.returns
returns c = instance-implied
