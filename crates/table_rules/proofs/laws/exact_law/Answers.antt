use Rattle.table_rules.proofs.InstanceLaws.{instance-parts, parts-instance}
use Rattle.table_rules.proofs.laws.exact_law.Goals as goal

pub returns : goal.returns
returns c core e = (instance-parts core e, parts-instance core e)
