use Rattle.std.proofs.Common.{◌≡◌, ◌++◌, map, ℤ}
use Rattle.order_ints.specs.declared.atom.Atom.{Atom}
use Rattle.order_ints.specs.OrderLevels.{values_of}
use Rattle.alldiff_rules.specs.Tally.{placed_at}
use Rattle.alldiff_rules.proofs.tally.put_values.Given as goal

-- those so far and those of the levels that are left are all
abbrev pub invariant-loop-value : goal.invariant-loop-value
invariant-loop-value l =
    l.entries.items ++ map (λ (level : ℤ × Atom). (level.0, l.place)) l.value-iterator ≡ l.initial.entries.items ++ placed_at l.place (values_of l.a)
