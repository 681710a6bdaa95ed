use Rattle.core_rules.proofs.InstanceLaws.{instance-implied, instance-different, instance-labels}
use Rattle.core_rules.proofs.laws.instance_law.Goals as goal

pub returns-clause-implied : goal.returns-clause-implied
returns-clause-implied c = instance-implied

pub returns-clause-different : goal.returns-clause-different
returns-clause-different c = instance-different

pub returns-clause-labels : goal.returns-clause-labels
returns-clause-labels c = instance-labels
