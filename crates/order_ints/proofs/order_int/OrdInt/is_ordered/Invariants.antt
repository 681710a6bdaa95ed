use Rattle.std.proofs.Common.{◌≡◌, drop, cond}
use Rattle.order_ints.specs.OrderValue.{in_order, none_true}
use Rattle.order_ints.proofs.order_int.OrdInt.is_ordered.Given as goal

-- what is left decides: it is to be in order, and after a false step none of it may be true
abbrev pub invariant-loop-step : goal.invariant-loop-step
invariant-loop-step g l =
    cond l.all_true (in_order (g.T.TruthValues.valuation l.sigma) (drop l.step-index l.step-items)) (none_true (g.T.TruthValues.valuation l.sigma) (drop l.step-index l.step-items)) ≡ in_order (g.T.TruthValues.valuation l.sigma) l.step-items
