use Rattle.std.proofs.Common.{◌≡◌, ◌&&◌, ◌||◌, drop}
use Rattle.order_ints.specs.OrderLevels.{is_among}
use Rattle.core_forms.specs.Values.{values, all_at_most, is_greatest}
use Rattle.core_forms.specs.WellFormed.{AreSound}
use Rattle.core_forms.proofs.meaning.lists.is_maximum.Given as goal

-- the greatest was reached or is among what is left, of which none is above it
abbrev pub invariant-loop-a : goal.invariant-loop-a
invariant-loop-a g l = record {
  decides : ((l.reached || is_among l.top (values (g.T.TruthValues.valuation l.sigma) (drop l.a-index l.ints))) && all_at_most l.top (values (g.T.TruthValues.valuation l.sigma) (drop l.a-index l.ints))) ≡ is_greatest l.top (values (g.T.TruthValues.valuation l.sigma) l.ints);
  sound : AreSound (drop l.a-index l.ints);
}
