use Rattle.std.proofs.Common.{◌≡◌, map, take}
use Rattle.order_ints.specs.declared.atom.Atom.TheVariants.{Of}
use Rattle.sat_front.proofs.literals.atoms_of.Given as goal

abbrev pub invariant-loop-literal : goal.invariant-loop-literal
invariant-loop-literal l = l.atoms.items ≡ map Of (take l.literal-index l.literals)
