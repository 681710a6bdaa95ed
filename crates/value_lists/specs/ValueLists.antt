-- Lists of values: ascending, their ends, and the gaps between them.
use Rattle.std.specs.Prelude.{ℕ, ◌+◌, ℤ, pos, ◌-ℤ◌, unsigned_abs, List, [], ◌∷◌, length}
use Rattle.core_cost.specs.declared.shape.Shape.{Shape}
use Rattle.core_cost.specs.Divisor.{common_divisor_of}
use Rattle.order_ints.specs.OrderMade.{AreAscending}
use Rattle.core_forms.specs.Sums.{ascending}

-- each value is above the one before it
abbrev pub Ascends : List ℤ → Type 0
Ascends vs = AreAscending vs

-- the different values of a list, ascending
abbrev pub different : List ℤ → List ℤ
different vs = ascending vs

-- the first value of a list, and 0 where there is none
abbrev pub first_of : List ℤ → ℤ
first_of [] = pos 0
first_of (v ∷ vs) = v

-- the last value of a list behind another value
abbrev pub last_behind : ℤ → List ℤ → ℤ
last_behind v [] = v
last_behind v (w ∷ vs) = last_behind w vs

-- the last value of a list, and 0 where there is none
abbrev pub last_of : List ℤ → ℤ
last_of [] = pos 0
last_of (v ∷ vs) = last_behind v vs

-- the greatest common divisor of the gaps of a list behind another value
abbrev pub divisor_behind : ℤ → List ℤ → ℕ
divisor_behind v [] = 0
divisor_behind v (w ∷ vs) = common_divisor_of (unsigned_abs (w -ℤ v)) (divisor_behind w vs)

-- the greatest common divisor of the gaps between neighbours, which is 0 where there is no gap
abbrev pub divisor_of : List ℤ → ℕ
divisor_of [] = 0
divisor_of (v ∷ vs) = divisor_behind v vs

-- the gaps of a list behind another value, added up
abbrev pub span_behind : ℤ → List ℤ → ℕ
span_behind v [] = 0
span_behind v (w ∷ vs) = unsigned_abs (w -ℤ v) + span_behind w vs

-- the shape of an integer that has these values, with a step for each but the least
abbrev pub shape_of : List ℤ → Shape
shape_of [] = record { steps = 0; span = 0; divisor = 0 }
shape_of (v ∷ vs) = record { steps = length vs; span = span_behind v vs; divisor = divisor_behind v vs }
