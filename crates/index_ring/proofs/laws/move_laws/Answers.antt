use Rattle.index_ring.proofs.Lawful.{unlink_closes, others_stay}
use Rattle.index_ring.proofs.laws.move_laws.Goals as goal

pub returns-clause-closes : goal.returns-clause-closes
returns-clause-closes c = unlink_closes

pub returns-clause-others : goal.returns-clause-others
returns-clause-others c = others_stay
