use Rattle.std.proofs.Common.{◌≡◌, drop}
use Rattle.core_forms.specs.WellFormed.{AreSound}
use Rattle.rule_base.specs.Pairs.{first_sought}
use Rattle.arith_rules.specs.MaxRows.{member_ranges}
use Rattle.arith_rules.proofs.maxima.on_ranges.Given as goal

-- what is found of the members that are left is found of all
abbrev pub invariant-loop-a : goal.invariant-loop-a
invariant-loop-a l = record {
  found : first_sought l.sought (member_ranges l.c (drop l.a-index l.ints)) ≡ first_sought l.sought (member_ranges l.c l.ints);
  sound : AreSound (drop l.a-index l.ints);
  same : l.walk.int.now ≡ l.c;
}
