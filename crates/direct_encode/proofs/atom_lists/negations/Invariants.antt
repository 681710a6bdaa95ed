use Rattle.std.proofs.Common.{◌≡◌, ◌++◌, ◌∷◌, drop, map}
use Rattle.order_ints.specs.Truth.{not_atom}
use Rattle.direct_encode.proofs.atom_lists.negations.Given as goal

-- those so far and those of the atoms that are left are all
abbrev pub invariant-loop-atom : goal.invariant-loop-atom
invariant-loop-atom l = l.clause.items ++ map not_atom (drop l.atom-index l.atoms) ≡ l.fn.first ∷ map not_atom l.atoms
