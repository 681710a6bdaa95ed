use Rattle.std.proofs.Common.{◌≡◌, map, ℤ}
use Rattle.std.specs.Prelude.{filter, int_lt}
use Rattle.order_ints.specs.declared.atom.Atom.{Atom}
use Rattle.rule_base.specs.Pairs.{first_sought}
use Rattle.arith_rules.specs.Links.{alike_where}
use Rattle.arith_rules.proofs.Beside.{linked_pair}
use Rattle.arith_rules.proofs.maxima.alike_above.Given as goal

-- what is found at the levels that are left is found at all values
abbrev pub invariant-loop-value : goal.invariant-loop-value
invariant-loop-value l = record {
  found : first_sought l.sought (map (linked_pair (λ v. v) l.b) (filter (λ (level : ℤ × Atom). int_lt l.least level.0) l.value-iterator)) ≡ first_sought l.sought (alike_where (int_lt l.least) l.a l.b);
  same : l.walk.int.now ≡ l.b;
}
