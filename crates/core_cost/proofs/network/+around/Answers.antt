use Rattle.core_cost.proofs.NeighbourLaws.{around_none}
use Rattle.core_cost.proofs.network.+around.Goals as goal

pub returns-then-m-eq0 : goal.returns-then-m-eq0
returns-then-m-eq0 t c = around_none c.args.n c.args.m c.if-n-eq0.true c.if-m-eq0.true
