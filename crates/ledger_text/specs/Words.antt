-- How literals and atoms are spelled.
use Rattle.std.specs.Prelude.{ℕ, ◌+◌, ◌^◌, List, ◌∷◌, codes, if◌then◌else◌}
use Rattle.std.specs.Fmt.{decimal}
use Rattle.order_ints.specs.declared.literal.Lit.{Lit}
use Rattle.order_ints.specs.declared.atom.Atom.{Atom}
use Rattle.order_ints.specs.declared.atom.Atom.TheVariants.{True, False, Of}
use Rattle.order_ints.specs.Place.{LitBelow, AtomBelow}

-- a variable with its sign
abbrev pub literal_word : Lit → List ℕ
literal_word l = if l.positive then decimal l.var else 45 ∷ decimal l.var

-- a constant's letter, or a literal
abbrev pub atom_word : Atom → List ℕ
atom_word True = codes "T"
atom_word False = codes "F"
atom_word (Of l) = literal_word l

-- the variable is from 1 to 2 ^ 27, the greatest that any text has
abbrev pub IsReadable : Lit → Type 0
IsReadable l = LitBelow (2 ^ 27 + 1) l

-- a constant, or such a literal
abbrev pub IsReadableAtom : Atom → Type 0
IsReadableAtom a = AtomBelow (2 ^ 27 + 1) a
