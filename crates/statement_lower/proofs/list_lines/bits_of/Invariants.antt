use Rattle.std.proofs.Common.{◌≡◌, ◌++◌, map, drop}
use Rattle.order_ints.specs.OrderMade.{integer_of_atom}
use Rattle.statement_lower.specs.Terms.{atoms_of}
use Rattle.statement_lower.proofs.list_lines.bits_of.Given as goal

abbrev pub invariant-loop-term : goal.invariant-loop-term
invariant-loop-term l =
    l.ints.items ++ map integer_of_atom (atoms_of l.entries (drop l.term-index l.terms)) ≡ map integer_of_atom (atoms_of l.entries l.terms)
