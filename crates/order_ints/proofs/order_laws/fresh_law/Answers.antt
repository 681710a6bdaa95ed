use Rattle.order_ints.proofs.Fresh.{takes_each_value}
use Rattle.order_ints.proofs.order_laws.fresh_law.Goals as goal

pub returns : goal.returns
returns c = takes_each_value
