use Rattle.std.proofs.Common.{◌≡◌, ◌<◌, ◌^◌}
use Rattle.std.specs.Prelude.{unsigned_abs}
use Rattle.std.specs.List.{AllByRecursion}
use Rattle.order_ints.specs.OrderLevels.{levels_of}
use Rattle.rule_base.specs.Pairs.{first_sought}
use Rattle.alldiff_rules.specs.Walks.{level_equations}
use Rattle.alldiff_rules.proofs.members.at_values.Given as goal

-- what is found at the levels that are left is found at all
abbrev pub invariant-loop-value : goal.invariant-loop-value
invariant-loop-value l = record {
  found : first_sought l.sought (level_equations l.tables l.place l.sure l.a l.value-iterator) ≡ first_sought l.sought (level_equations l.tables l.place l.sure l.a (levels_of l.a));
  small : AllByRecursion (λ level. unsigned_abs level.0 < 2 ^ 100) l.value-iterator;
  same : l.ahead.int.now ≡ l.a;
}
