use Rattle.std.proofs.Common.{◌≡◌, drop}
use Rattle.core_forms.specs.WellFormed.{AreSound}
use Rattle.table_rules.specs.Words.{which_first}
use Rattle.table_rules.proofs.words.which_first.Given as goal

-- what is left decides
abbrev pub invariant-loop-i : goal.invariant-loop-i
invariant-loop-i g l = record {
  decides : which_first (g.T.TruthValues.valuation l.sigma) (drop l.i l.front) (drop l.i l.back) ≡ which_first (g.T.TruthValues.valuation l.sigma) l.front l.back;
  sound_front : AreSound (drop l.i l.front);
  sound_back : AreSound (drop l.i l.back);
}
