use Rattle.std.proofs.Common.{◌≡◌, drop}
use Rattle.core_forms.specs.WellFormed.{AreSound}
use Rattle.rule_base.specs.Pairs.{first_sought}
use Rattle.arith_rules.specs.SumRows.{lows_of, highs_of, shares}
use Rattle.arith_rules.proofs.sums.by_shares.Given as goal

-- what is found of the members that are left is found of all
abbrev pub invariant-loop-a : goal.invariant-loop-a
invariant-loop-a l = record {
  found : first_sought l.sought (shares l.k (lows_of l.ints) (highs_of l.ints) (drop l.a-index l.ints)) ≡ first_sought l.sought (shares l.k (lows_of l.ints) (highs_of l.ints) l.ints);
  sound : AreSound (drop l.a-index l.ints);
}
