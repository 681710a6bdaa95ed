use Rattle.std.proofs.Common.{arith, ap}
use Rattle.core_cost.specs.Sums.{spans_of}
use Rattle.core_forms.proofs.ShapeLaws.{spans-within}
use Rattle.core_forms.proofs.costs.members_cost.Goals as goal

pub sum_cost-requires : goal.sum_cost-requires
sum_cost-requires c =
    let is = ap spans_of c.in_ok-shapes.ensures.shapes in omega (arith, is, spans-within c.args.ints.now, c.requires.limit)
