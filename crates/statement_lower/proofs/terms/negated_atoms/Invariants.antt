use Rattle.std.proofs.Common.{◌≡◌, map, take}
use Rattle.order_ints.specs.Truth.{not_atom}
use Rattle.statement_lower.proofs.terms.negated_atoms.Given as goal

abbrev pub invariant-loop-atom : goal.invariant-loop-atom
invariant-loop-atom l = l.negated.items ≡ map not_atom (take l.atom-index l.atoms)
