-- The levels of an integer: its values upwards, each with the atom that is true where that value is reached.
use Rattle.std.specs.Prelude.{ℕ, Bool, false, ◌||◌, ℤ, pos, ◌+ℤ◌, int_le, List, [], ◌∷◌, map}
use Rattle.std.specs.Prelude.{if◌then◌else◌}
use Rattle.std.specs.Ordering.{int_eq}
use Rattle.order_ints.specs.declared.atom.Atom.{Atom}
use Rattle.order_ints.specs.declared.atom.Atom.TheVariants.{True, False}
use Rattle.order_ints.specs.declared.order_int.OrdInt.{OrdInt}

-- from a value upwards: the value with its atom, and then the value that each step reaches, with that step's atom
abbrev pub levels : ℤ → Atom → List (Atom × ℕ) → List (ℤ × Atom)
levels value atom [] = (value, atom) ∷ []
levels value atom (s ∷ steps) = (value, atom) ∷ levels (value +ℤ pos s.1) s.0 steps

-- the levels of an integer, of which the base is always reached
abbrev pub levels_of : OrdInt → List (ℤ × Atom)
levels_of a = levels a.base True a.steps

-- the values of an integer upwards
abbrev pub values_of : OrdInt → List ℤ
values_of a = map (λ level. level.0) (levels_of a)

-- the atom of the first level at which v is reached, and no true one where v is reached at none
abbrev pub first_reaching : ℤ → List (ℤ × Atom) → Atom
first_reaching v [] = False
first_reaching v (level ∷ above) = if int_le v level.0 then level.1 else first_reaching v above

-- the atom that says that an integer is at least v
abbrev pub at_of : OrdInt → ℤ → Atom
at_of a v = first_reaching v (levels_of a)

-- the value is one of those
abbrev pub is_among : ℤ → List ℤ → Bool
is_among value [] = false
is_among value (v ∷ vs) = int_eq v value || is_among value vs
