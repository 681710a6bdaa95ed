-- Equations that state bounds of an integer, and truths of atoms.
use Rattle.std.specs.Prelude.{List, map, ℤ, pos, ◌+ℤ◌}
use Rattle.order_ints.specs.declared.atom.Atom.{Atom}
use Rattle.order_ints.specs.declared.atom.Atom.TheVariants.{True, False}
use Rattle.order_ints.specs.declared.order_int.OrdInt.{OrdInt}
use Rattle.order_ints.specs.OrderLevels.{at_of}

-- the integer is at least v
abbrev pub at_least : OrdInt → ℤ → Atom × Atom
at_least a v = (at_of a v, True)

-- the integer is below v
abbrev pub is_below : OrdInt → ℤ → Atom × Atom
is_below a v = (at_of a v, False)

-- the integer is not v
abbrev pub is_not : OrdInt → ℤ → Atom × Atom
is_not a v = (at_of a v, at_of a (v +ℤ pos 1))

-- each atom is equal to one
abbrev pub all_equal : List Atom → Atom → List (Atom × Atom)
all_equal atoms b = map (λ a. (a, b)) atoms
