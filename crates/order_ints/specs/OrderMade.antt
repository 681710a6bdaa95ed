-- The integers that are made of a value, of an atom, and of values with fresh variables.
use Rattle.std.specs.Prelude.{ℕ, zero, suc, ◌+◌, ◌^◌, ◌<◌, ◌≤◌, ℤ, pos, ◌-ℤ◌, ◌+ℤ◌}
use Rattle.std.specs.Prelude.{◌<ℤ◌, unsigned_abs, List, [], ◌∷◌}
use Rattle.order_ints.specs.Label.{variable}
use Rattle.order_ints.specs.declared.atom.Atom.{Atom}
use Rattle.order_ints.specs.declared.order_int.OrdInt.{OrdInt}

-- the integer that is always the value
abbrev pub constant_of : ℤ → OrdInt
constant_of value = record { base = value; steps = [] }

-- 1 where the atom is true, and else 0
abbrev pub integer_of_atom : Atom → OrdInt
integer_of_atom a = record { base = pos 0; steps = (a, 1) ∷ [] }

-- steps of weight 1, one for each variable
abbrev pub unit_steps : ℕ → ℕ → List (Atom × ℕ)
unit_steps first zero = []
unit_steps first (suc count) = (variable first, 1) ∷ unit_steps (first + 1) count

-- from low upwards by ones, with a variable for each further value
abbrev pub unit_range_of : ℤ → ℕ → ℕ → OrdInt
unit_range_of low first count = record { base = low; steps = unit_steps first count }

-- so many values from one on, each one more than that before
abbrev pub values_from : ℤ → ℕ → List ℤ
values_from low zero = []
values_from low (suc count) = low ∷ values_from (low +ℤ pos 1) count

-- the steps from a value up to each further one, with a variable for each
abbrev pub steps_between : ℤ → List ℤ → ℕ → List (Atom × ℕ)
steps_between value [] var = []
steps_between value (next ∷ values) var =
    (variable var, unsigned_abs (next -ℤ value)) ∷ steps_between next values (var + 1)

-- the integer of the listed values, the least first, with a variable for each further one
abbrev pub integer_of_values : List ℤ → ℕ → OrdInt
integer_of_values [] first = constant_of (pos 0)
integer_of_values (least ∷ values) first = record { base = least; steps = steps_between least values first }

-- each further value is above that before
abbrev pub AscendFrom : ℤ → List ℤ → Type 0
AscendFrom value [] = Unit {0}
AscendFrom value (next ∷ values) = (value <ℤ next) × AscendFrom next values

-- the values ascend, and none is there twice
abbrev pub AreAscending : List ℤ → Type 0
AreAscending [] = Unit {0}
AreAscending (least ∷ values) = AscendFrom least values

-- each value is below 2 ^ 100 in absolute value
abbrev pub AreSmall : List ℤ → Type 0
AreSmall [] = Unit {0}
AreSmall (value ∷ values) = (unsigned_abs value < 2 ^ 100) × AreSmall values

-- the variables from one on, where there are any, are from 1 to 2 ^ 27
abbrev pub AreVars : ℕ → ℕ → Type 0
AreVars first count = 0 < count → (1 ≤ first) × (first + count ≤ 2 ^ 27 + 1)
