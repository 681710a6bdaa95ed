use Rattle.index_ring.proofs.Lawful.{walk_meets, walk_is_list}
use Rattle.index_ring.proofs.laws.walk_laws.Goals as goal

pub returns-clause-meets : goal.returns-clause-meets
returns-clause-meets c = walk_meets

pub returns-clause-list : goal.returns-clause-list
returns-clause-list c = walk_is_list
