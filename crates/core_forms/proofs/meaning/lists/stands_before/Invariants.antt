use Rattle.std.proofs.Common.{◌≡◌, drop}
use Rattle.core_forms.specs.Values.{values, is_before}
use Rattle.core_forms.specs.WellFormed.{AreSound}
use Rattle.core_forms.proofs.meaning.lists.stands_before.Given as goal

-- what is left decides
abbrev pub invariant-loop-i : goal.invariant-loop-i
invariant-loop-i g l = record {
  decides : is_before l.strict (values (g.T.TruthValues.valuation l.sigma) (drop l.i l.front)) (values (g.T.TruthValues.valuation l.sigma) (drop l.i l.back)) ≡ is_before l.strict (values (g.T.TruthValues.valuation l.sigma) l.front) (values (g.T.TruthValues.valuation l.sigma) l.back);
  sound_front : AreSound (drop l.i l.front);
  sound_back : AreSound (drop l.i l.back);
}
