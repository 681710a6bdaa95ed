use Rattle.rule_base.proofs.FoundLaws.{found-some, found-none}
use Rattle.arith_rules.specs.Instances.{equations_of}
use Rattle.arith_rules.proofs.Found.{found-implied}
use Rattle.arith_rules.proofs.instances.find.Goals as goal

pub returns-clause-instance : goal.returns-clause-instance
returns-clause-instance g c = found-some (equations_of c.args.core.now) c.found.result c.found.ensures

pub returns-clause-implied : goal.returns-clause-implied
returns-clause-implied g c = found-implied c.args.core.now c.found.result c.requires c.found.ensures

pub returns-clause-none : goal.returns-clause-none
returns-clause-none g c = found-none (equations_of c.args.core.now) c.found.result c.found.ensures
