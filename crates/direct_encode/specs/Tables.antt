-- The clauses that go over each pair of a value of one integer and a value of another.
use Rattle.std.specs.Prelude.{ℕ, zero, suc, ◌+◌, ◌-◌, ◌/◌, ◌%◌, Bool, ◌&&◌, ◌||◌, nat_lt}
use Rattle.std.specs.Prelude.{List, [], ◌∷◌, ◌++◌, ℤ, pos, ◌+ℤ◌, ◌*ℤ◌, int_le, unsigned_abs}
use Rattle.std.specs.Prelude.{if◌then◌else◌}
use Rattle.order_ints.specs.declared.atom.Atom.{Atom}
use Rattle.order_ints.specs.declared.order_int.OrdInt.{OrdInt}
use Rattle.order_ints.specs.Truth.{not_atom}
use Rattle.order_ints.specs.Same.{same_atom}
use Rattle.order_ints.specs.OrderRange.{low_of}
use Rattle.order_ints.specs.OrderLevels.{at_of}
use Rattle.order_ints.specs.Walk.{value_at}
use Rattle.core_forms.specs.Shapes.{steps_of}

-- the clauses of so many places from one on
abbrev pub over_places : (ℕ → List (List Atom)) → ℕ → ℕ → List (List Atom)
over_places f first zero = []
over_places f first (suc count) = f first ++ over_places f (first + 1) count

-- those of a place of the first integer and each one of the second
abbrev pub row_clauses : (ℕ → ℕ → List (List Atom)) → OrdInt → ℕ → List (List Atom)
row_clauses pair b i = over_places (pair i) 0 (steps_of b + 1)

-- those of each pair of places
abbrev pub table_clauses : (ℕ → ℕ → List (List Atom)) → OrdInt → OrdInt → List (List Atom)
table_clauses pair a b = over_places (row_clauses pair b) 0 (steps_of a + 1)

-- a is below its value at the place
abbrev pub below_place : OrdInt → ℕ → Atom
below_place a i = not_atom (at_of a (value_at a i))

-- a is above its value at the place
abbrev pub above_place : OrdInt → ℕ → Atom
above_place a i = at_of a (value_at a i +ℤ pos 1)

-- where both are at least the values at the places, x
abbrev pub from_pair : OrdInt → OrdInt → ℕ → ℕ → Atom → List Atom
from_pair a b i j x = below_place a i ∷ below_place b j ∷ x ∷ []

-- where both are at most the values at the places, x
abbrev pub up_to_pair : OrdInt → OrdInt → ℕ → ℕ → Atom → List Atom
up_to_pair a b i j x = above_place a i ∷ above_place b j ∷ x ∷ []

-- where both are the values at the places, x
abbrev pub at_pair : OrdInt → OrdInt → ℕ → ℕ → Atom → List Atom
at_pair a b i j x = below_place a i ∷ above_place a i ∷ below_place b j ∷ above_place b j ∷ x ∷ []

-- c is at least the sum of the values at the places
abbrev pub sum_reached : OrdInt → OrdInt → OrdInt → ℕ → ℕ → Atom
sum_reached a b c i j = at_of c (value_at a i +ℤ value_at b j)

-- c is above it
abbrev pub sum_exceeded : OrdInt → OrdInt → OrdInt → ℕ → ℕ → Atom
sum_exceeded a b c i j = at_of c (value_at a i +ℤ value_at b j +ℤ pos 1)

-- the place below on one side has the same atom, so that its clause says more
abbrev pub has_lower_neighbour : OrdInt → OrdInt → OrdInt → ℕ → ℕ → Bool
has_lower_neighbour a b c i j =
    (nat_lt 0 i && same_atom (sum_reached a b c (i - 1) j) (sum_reached a b c i j))
    || (nat_lt 0 j && same_atom (sum_reached a b c i (j - 1)) (sum_reached a b c i j))

-- the place above on one side has the same atom
abbrev pub has_upper_neighbour : OrdInt → OrdInt → OrdInt → ℕ → ℕ → Bool
has_upper_neighbour a b c i j =
    (nat_lt i (steps_of a) && same_atom (sum_exceeded a b c (i + 1) j) (sum_exceeded a b c i j))
    || (nat_lt j (steps_of b) && same_atom (sum_exceeded a b c i (j + 1)) (sum_exceeded a b c i j))

-- the clause, unless it is left out
abbrev pub unless : Bool → List Atom → List (List Atom)
unless left_out clause = if left_out then [] else clause ∷ []

-- c is the sum at a pair of places
abbrev pub sum_pair : OrdInt → OrdInt → OrdInt → ℕ → ℕ → List (List Atom)
sum_pair a b c i j =
    unless (has_lower_neighbour a b c i j) (from_pair a b i j (sum_reached a b c i j))
    ++ unless (has_upper_neighbour a b c i j) (up_to_pair a b i j (not_atom (sum_exceeded a b c i j)))

-- c is the sum of a and b
abbrev pub sum3_clauses : OrdInt → OrdInt → OrdInt → List (List Atom)
sum3_clauses a b c = table_clauses (sum_pair a b c) a b

-- the product of the values at the places
abbrev pub product_at : OrdInt → OrdInt → ℕ → ℕ → ℤ
product_at a b i j = value_at a i *ℤ value_at b j

-- no value of either is negative
abbrev pub are_natural : OrdInt → OrdInt → Bool
are_natural a b = int_le (pos 0) (low_of a) && int_le (pos 0) (low_of b)

-- c is the product at a pair of places; where it rises with both, one clause holds from the pair on, and one up to it
abbrev pub product_pair : OrdInt → OrdInt → OrdInt → ℕ → ℕ → List (List Atom)
product_pair a b c i j =
    if are_natural a b
    then from_pair a b i j (at_of c (product_at a b i j))
    ∷ up_to_pair a b i j (not_atom (at_of c (product_at a b i j +ℤ pos 1))) ∷ []
    else at_pair a b i j (at_of c (product_at a b i j))
    ∷ at_pair a b i j (not_atom (at_of c (product_at a b i j +ℤ pos 1))) ∷ []

-- c is the product of a and b
abbrev pub prod_clauses : OrdInt → OrdInt → OrdInt → List (List Atom)
prod_clauses a b c = table_clauses (product_pair a b c) a b

-- quotient and rest of the values at the places, which are not negative
abbrev pub quotient_at : OrdInt → OrdInt → ℕ → ℕ → ℤ
quotient_at a b i j = pos (unsigned_abs (value_at a i) / unsigned_abs (value_at b j))

abbrev pub rest_at : OrdInt → OrdInt → ℕ → ℕ → ℤ
rest_at a b i j = pos (unsigned_abs (value_at a i) % unsigned_abs (value_at b j))

-- q and r are quotient and rest at a pair of places
abbrev pub division_pair : OrdInt → OrdInt → OrdInt → OrdInt → ℕ → ℕ → List (List Atom)
division_pair a b q r i j =
    at_pair a b i j (at_of q (quotient_at a b i j))
    ∷ at_pair a b i j (not_atom (at_of q (quotient_at a b i j +ℤ pos 1)))
    ∷ at_pair a b i j (at_of r (rest_at a b i j))
    ∷ at_pair a b i j (not_atom (at_of r (rest_at a b i j +ℤ pos 1))) ∷ []

-- q and r are quotient and rest of a by b
abbrev pub div_mod_clauses : OrdInt → OrdInt → OrdInt → OrdInt → List (List Atom)
div_mod_clauses a b q r = table_clauses (division_pair a b q r) a b
