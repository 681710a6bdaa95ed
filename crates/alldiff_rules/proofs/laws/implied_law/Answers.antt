use Rattle.alldiff_rules.proofs.Sound.{instance-implied}
use Rattle.alldiff_rules.proofs.laws.implied_law.Goals as goal

pub returns : goal.returns
returns c = instance-implied
