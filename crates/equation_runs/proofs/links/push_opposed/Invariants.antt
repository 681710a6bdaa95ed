use Rattle.std.proofs.Common.{◌≡◌, ◌<◌, ◌^◌, ◌++◌, map, ℤ}
use Rattle.std.specs.Prelude.{unsigned_abs}
use Rattle.std.specs.List.{AllByRecursion}
use Rattle.order_ints.specs.declared.atom.Atom.{Atom}
use Rattle.core_forms.specs.declared.equation.Rule.TheVariants.{Form}
use Rattle.arith_rules.specs.Links.{opposed}
use Rattle.arith_rules.specs.CodeLinks.{link_of, LinkFits}
use Rattle.arith_rules.proofs.Beside.{opposed_pair}
use Rattle.equation_runs.specs.RunRows.{equation_of}
use Rattle.equation_runs.proofs.links.push_opposed.Given as goal

-- those so far and those of what is left of the walk are all
abbrev pub invariant-loop-value : goal.invariant-loop-value
invariant-loop-value l = record {
  fits : AllByRecursion (λ (level : ℤ × Atom). (unsigned_abs level.0 < 2 ^ 100) × LinkFits l.link level.0) l.value-iterator;
  run : l.run.items ++ map (equation_of Form) (map (opposed_pair (link_of l.link) l.b) l.value-iterator) ≡ l.initial.run.items ++ map (equation_of Form) (opposed (link_of l.link) l.a l.b);
  same : l.walk.int.now ≡ l.b;
}
