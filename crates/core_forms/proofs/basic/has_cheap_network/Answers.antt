use Rattle.std.proofs.Common.{arith}
use Rattle.core_cost.proofs.Bounds.{table-fits}
use Rattle.core_forms.proofs.basic.has_cheap_network.Goals as goal

pub is_network_cheaper-requires : goal.is_network_cheaper-requires
is_network_cheaper-requires c =
    let first = c.shape.ensures.fits in
    let second = c.shape-2.ensures.fits in
    table-fits c.shape.result.steps c.shape-2.result.steps (omega arith) (omega arith)
