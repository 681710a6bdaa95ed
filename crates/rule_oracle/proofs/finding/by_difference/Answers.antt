use Rattle.rule_oracle.proofs.Told.{alldiff-some, alldiff-none}
use Rattle.rule_oracle.proofs.finding.by_difference.Goals as goal

pub returns-clause-some : goal.returns-clause-some
returns-clause-some g c = alldiff-some c.args.core.now c.find.result c.find.ensures.instance

pub returns-clause-none : goal.returns-clause-none
returns-clause-none g c = alldiff-none c.args.core.now c.find.result c.find.ensures.none
