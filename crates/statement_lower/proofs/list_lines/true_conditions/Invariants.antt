use Rattle.std.proofs.Common.{◌≡◌, ◌++◌, map, drop}
use Rattle.order_ints.specs.declared.atom.Atom.TheVariants.{True}
use Rattle.statement_lower.proofs.list_lines.true_conditions.Given as goal

abbrev pub invariant-loop-int : goal.invariant-loop-int
invariant-loop-int l = l.conditions.items ++ map (λ _. True) (drop l._int-index l.ints) ≡ map (λ _. True) l.ints
