use Rattle.std.proofs.Common.{◌≡◌, drop}
use Rattle.core_forms.specs.Truths.{truths}
use Rattle.core_forms.specs.Values.{values, none_equal}
use Rattle.core_forms.specs.WellFormed.{AreSound}
use Rattle.core_forms.proofs.meaning.lists.is_alone.Given as goal

-- what is left decides
abbrev pub invariant-loop-i : goal.invariant-loop-i
invariant-loop-i g l = record {
  decides : none_equal l.value (values (g.T.TruthValues.valuation l.sigma) (drop l.i l.ints)) (truths (g.T.TruthValues.valuation l.sigma) (drop l.i l.conditions)) ≡ none_equal l.value (values (g.T.TruthValues.valuation l.sigma) l.ints) (truths (g.T.TruthValues.valuation l.sigma) l.conditions);
  sound : AreSound (drop l.i l.ints);
}
