use Rattle.rule_base.proofs.FoundLaws.{found-some, found-none}
use Rattle.equi_rules.specs.Instances.{equations_of}
use Rattle.equi_rules.proofs.Found.{found-implied}
use Rattle.equi_rules.proofs.instances.find_last.Goals as goal

pub returns-clause-instance : goal.returns-clause-instance
returns-clause-instance g c = found-some (equations_of c.args.core.now) c.found_last.result c.found_last.ensures

pub returns-clause-implied : goal.returns-clause-implied
returns-clause-implied g c = found-implied c.args.core.now c.found_last.result c.found_last.ensures

pub returns-clause-none : goal.returns-clause-none
returns-clause-none g c = found-none (equations_of c.args.core.now) c.found_last.result c.found_last.ensures
