use Rattle.part_base.proofs.FreshLaws.{with_fresh-Agree, truth-with_fresh}
use Rattle.part_base.proofs.laws.fresh_law.Goals as goal

pub returns-clause-agree : goal.returns-clause-agree
returns-clause-agree c = with_fresh-Agree

pub returns-clause-truth : goal.returns-clause-truth
returns-clause-truth c = truth-with_fresh
