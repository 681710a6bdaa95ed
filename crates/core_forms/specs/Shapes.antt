-- The shapes of integers: what their costs depend on.
use Rattle.std.specs.Prelude.{ℕ, List, [], ◌∷◌, length}
use Rattle.order_ints.specs.declared.atom.Atom.{Atom}
use Rattle.order_ints.specs.declared.order_int.OrdInt.{OrdInt}
use Rattle.order_ints.specs.OrderRange.{weights}
use Rattle.core_cost.specs.declared.shape.Shape.{Shape}
use Rattle.core_cost.specs.Divisor.{common_divisor_of}

-- the greatest common divisor of the weights of all steps, which is 0 without steps
abbrev pub divisor_of : List (Atom × ℕ) → ℕ
divisor_of [] = 0
divisor_of (s ∷ steps) = common_divisor_of s.1 (divisor_of steps)

-- the number of steps of an integer
abbrev pub steps_of : OrdInt → ℕ
steps_of a = length a.steps

-- its number of steps; its greatest value less its least, which are all weights added up; and the greatest common
-- divisor of its weights
abbrev pub shape_of : OrdInt → Shape
shape_of a = record { steps = steps_of a; span = weights a.steps; divisor = divisor_of a.steps }

-- the shape of each integer
abbrev pub shapes_of : List OrdInt → List Shape
shapes_of [] = []
shapes_of (a ∷ ints) = shape_of a ∷ shapes_of ints

-- the number of steps of each integer
abbrev pub numbers_of_steps : List OrdInt → List ℕ
numbers_of_steps [] = []
numbers_of_steps (a ∷ ints) = steps_of a ∷ numbers_of_steps ints

-- the numbers of steps of the two integers at each place of both lists
abbrev pub pairs_of_steps : List OrdInt → List OrdInt → List (ℕ × ℕ)
pairs_of_steps [] back = []
pairs_of_steps (a ∷ front) [] = []
pairs_of_steps (a ∷ front) (b ∷ back) = (steps_of a, steps_of b) ∷ pairs_of_steps front back
