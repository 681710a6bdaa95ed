use Rattle.std.proofs.Common.{◌≡◌, ◌<◌, ◌^◌, map, ℤ}
use Rattle.std.specs.Prelude.{unsigned_abs}
use Rattle.std.specs.List.{AllByRecursion}
use Rattle.order_ints.specs.declared.atom.Atom.{Atom}
use Rattle.rule_base.specs.Pairs.{first_sought}
use Rattle.arith_rules.specs.Links.{opposed}
use Rattle.arith_rules.specs.CodeLinks.{link_of, LinkFits}
use Rattle.arith_rules.proofs.Beside.{opposed_pair}
use Rattle.arith_rules.proofs.links.opposed.Given as goal

-- what is found at the levels that are left is found at all values
abbrev pub invariant-loop-value : goal.invariant-loop-value
invariant-loop-value l = record {
  found : first_sought l.sought (map (opposed_pair (link_of l.link) l.b) l.value-iterator) ≡ first_sought l.sought (opposed (link_of l.link) l.a l.b);
  fits : AllByRecursion (λ (level : ℤ × Atom). (unsigned_abs level.0 < 2 ^ 100) × LinkFits l.link level.0) l.value-iterator;
  same : l.walk.int.now ≡ l.b;
}
