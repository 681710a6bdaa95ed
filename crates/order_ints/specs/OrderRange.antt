-- The least and the greatest value of an integer, and the conditions that an integer meets.
use Rattle.std.specs.Prelude.{ℕ, ◌+◌, ◌^◌, ◌<◌, ◌≤◌, ℤ, pos, ◌+ℤ◌, unsigned_abs, List, []}
use Rattle.std.specs.Prelude.{◌∷◌}
use Rattle.order_ints.specs.declared.atom.Atom.{Atom}
use Rattle.order_ints.specs.declared.order_int.OrdInt.{OrdInt}
use Rattle.order_ints.specs.Place.{StepsBelow}

-- the weights of all steps, added up
abbrev pub weights : List (Atom × ℕ) → ℕ
weights [] = 0
weights (s ∷ steps) = s.1 + weights steps

-- the least value, which an integer has where no step is true
abbrev pub low_of : OrdInt → ℤ
low_of a = a.base

-- the greatest value, which an integer has where all steps are true
abbrev pub high_of : OrdInt → ℤ
high_of a = a.base +ℤ pos (weights a.steps)

-- the values, which lie between the least and the greatest, are below 2 ^ 100 in absolute value
abbrev pub IsBounded : OrdInt → Type 0
IsBounded a = (unsigned_abs (low_of a) < 2 ^ 100) × (unsigned_abs (high_of a) < 2 ^ 100)

-- each step raises the value: its weight is at least 1
abbrev pub AreRising : List (Atom × ℕ) → Type 0
AreRising [] = Unit {0}
AreRising (s ∷ steps) = (1 ≤ s.1) × AreRising steps

-- the variables of an integer are from 1 and below n
abbrev pub IntBelow : ℕ → OrdInt → Type 0
IntBelow n a = StepsBelow n a.steps
