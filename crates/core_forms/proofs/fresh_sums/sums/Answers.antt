use Rattle.core_forms.proofs.SumOutcomes.{some_ok, ascending_ok, small_ok, steps_ok}
use Rattle.core_forms.proofs.fresh_sums.sums.Goals as goal

pub returns-clause-some : goal.returns-clause-some
returns-clause-some c = some_ok c.listed_sums.result c.args.a.now c.args.b.now c.listed_sums.ensures

pub returns-clause-ascending : goal.returns-clause-ascending
returns-clause-ascending c = ascending_ok c.listed_sums.result c.args.a.now c.args.b.now c.listed_sums.ensures

pub returns-clause-small : goal.returns-clause-small
returns-clause-small c = small_ok c.listed_sums.result c.args.a.now c.args.b.now c.requires.limit c.listed_sums.ensures

pub returns-clause-steps : goal.returns-clause-steps
returns-clause-steps c = steps_ok c.listed_sums.result c.args.a.now c.args.b.now c.listed_sums.ensures
