use Rattle.std.proofs.Common.{◌≡◌, ◌+◌, drop}
use Rattle.order_ints.specs.OrderValue.{gains}
use Rattle.order_ints.proofs.order_int.OrdInt.value.Given as goal

-- what the steps so far gained and what those that are left gain is what all gain
abbrev pub invariant-loop-step : goal.invariant-loop-step
invariant-loop-step g l =
    l.gained + gains (g.T.TruthValues.valuation l.sigma) (drop l.step-index l.step-items) ≡ gains (g.T.TruthValues.valuation l.sigma) l.step-items
