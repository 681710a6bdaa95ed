-- A place among the levels of an integer: so many steps up from the least value.
use Rattle.std.specs.Prelude.{◌≡◌, ℕ, zero, suc, ◌≤◌, Bool, List, [], ◌∷◌, length, take, ℤ, pos}
use Rattle.std.specs.Prelude.{◌+ℤ◌}
use Rattle.order_ints.specs.declared.atom.Atom.{Atom}
use Rattle.order_ints.specs.declared.atom.Atom.TheVariants.{True}
use Rattle.order_ints.specs.declared.order_int.OrdInt.{OrdInt}
use Rattle.order_ints.specs.OrderRange.{weights, IsBounded}
use Rattle.order_ints.specs.OrderLevels.{values_of, is_among}

-- the value of a place
abbrev pub value_at : OrdInt → ℕ → ℤ
value_at a place = a.base +ℤ pos (weights (take place a.steps))

-- the atom of the last of so many steps, and where there is none, this one
abbrev pub atom_behind : Atom → List (Atom × ℕ) → ℕ → Atom
atom_behind x steps zero = x
atom_behind x [] (suc place) = x
atom_behind x (s ∷ steps) (suc place) = atom_behind s.0 steps place

-- the atom of a place
abbrev pub atom_at : OrdInt → ℕ → Atom
atom_at a place = atom_behind True a.steps place

-- the integer has the value
abbrev pub has_value : OrdInt → ℤ → Bool
has_value a v = is_among v (values_of a)

-- a place of a bounded integer, with its value
abbrev pub StandsAt : OrdInt → ℕ → ℤ → Type 0
StandsAt a place value = IsBounded a × (place ≤ length a.steps) × (value ≡ value_at a place)
