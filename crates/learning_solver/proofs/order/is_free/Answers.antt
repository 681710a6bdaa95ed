use Rattle.learning_solver.proofs.RingLaws.{free-told}
use Rattle.learning_solver.proofs.order.is_free.Goals as goal

pub returns : goal.returns
returns c = free-told c.args.db.now.trail.entries c.args.v c.value.result c.is_none.result c.value.ensures c.is_none.ensures
