use Rattle.alldiff_rules.proofs.ExactLaws.{instance-exact}
use Rattle.alldiff_rules.proofs.laws.exact_law.Goals as goal

pub returns : goal.returns
returns c = instance-exact
