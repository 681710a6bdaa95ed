-- The weight of a linear sum that is compared: its members, and, last, the negated right side.
use Rattle.std.specs.Prelude.{ℕ, zero, suc, ◌+◌, ◌-◌, ◌*◌, ◌==◌, ℤ, pos, unsigned_abs, List, []}
use Rattle.std.specs.Prelude.{◌∷◌, ◌++◌, length, if◌then◌else◌}
use Rattle.std.specs.Ordering.{int_eq}
use Rattle.core_cost.specs.declared.shape.Shape.{Shape}
use Rattle.core_cost.specs.Sums.{constant, unit_steps, fresh_sum_of, cost_of_sum3, cost_of_sum}
use Rattle.model_meaning.specs.declared.what.BoolTerm.{BoolTerm}
use Rattle.model_meaning.specs.declared.what.IntTerm.{IntTerm}
use Rattle.model_meaning.specs.declared.model.Decl.{Decl}
use Rattle.model_meaning.specs.declared.statement.Relation.{Relation}
use Rattle.model_meaning.specs.declared.statement.Relation.TheVariants as relation
use Rattle.model_weight.specs.Shapes.{shape_in}
use Rattle.model_weight.specs.Comparisons.{weight_of_comparison}

-- an integer times a coefficient
abbrev pub scaled : ℤ → Shape → Shape
scaled c a =
    if int_eq c (pos 0)
    then constant
    else record { steps = a.steps; span = unsigned_abs c * a.span; divisor = unsigned_abs c * a.divisor }

-- the members times their coefficients; a Boolean has one step
abbrev pub scaled_truths : List ℤ → List BoolTerm → List Shape
scaled_truths [] xs = []
scaled_truths (c ∷ cs) [] = []
scaled_truths (c ∷ cs) (x ∷ xs) = scaled c (unit_steps 1) ∷ scaled_truths cs xs

abbrev pub scaled_numbers : List Decl → List ℤ → List IntTerm → List Shape
scaled_numbers ds [] is = []
scaled_numbers ds (c ∷ cs) [] = []
scaled_numbers ds (c ∷ cs) (i ∷ is) = scaled c (shape_in ds i) ∷ scaled_numbers ds cs is

-- the members as they are
abbrev pub numbers : List Decl → List IntTerm → List Shape
numbers ds [] = []
numbers ds (i ∷ is) = shape_in ds i ∷ numbers ds is

-- those that have a step
abbrev pub with_steps : List Shape → List Shape
with_steps [] = []
with_steps (a ∷ rest) = if a.steps == 0 then with_steps rest else a ∷ with_steps rest

-- a fresh integer is the sum of two members: its variables, and the sum
abbrev pub weight_of_fresh_sum : Shape → Shape → ℕ
weight_of_fresh_sum a b = (fresh_sum_of a b).steps + cost_of_sum3 a b (fresh_sum_of a b).steps

-- the number of steps of the first member, where there is one
abbrev pub steps_of_first : List Shape → ℕ
steps_of_first [] = 0
steps_of_first (a ∷ rest) = a.steps

-- So many times the first two members make way for a fresh sum behind the others; then the first one is compared to the
-- second one negated. One that is missing is the constant 0.
abbrev pub weight_of_queue : ℕ → Relation → List Shape → ℕ
weight_of_queue times rel [] = weight_of_comparison rel 0 0
weight_of_queue times rel (a ∷ []) = weight_of_comparison rel a.steps 0
weight_of_queue zero rel (a ∷ b ∷ rest) = weight_of_comparison rel a.steps b.steps
weight_of_queue (suc times) rel (a ∷ b ∷ rest) =
    weight_of_fresh_sum a b + weight_of_queue times rel (rest ++ fresh_sum_of a b ∷ [])

-- until two members are left
abbrev pub weight_of_compared : Relation → List Shape → ℕ
weight_of_compared rel members = weight_of_queue (length members - 2) rel members

-- the members' sum stands in a relation to a number; for equality it is one core
abbrev pub weight_of_sum : Relation → List Shape → ℕ
weight_of_sum relation.Leq members = weight_of_compared relation.Leq members
weight_of_sum relation.Geq members = weight_of_compared relation.Geq members
weight_of_sum relation.Eq members = cost_of_sum members
weight_of_sum relation.Lt members = weight_of_compared relation.Lt members
weight_of_sum relation.Gt members = weight_of_compared relation.Gt members
weight_of_sum relation.Neq members = weight_of_compared relation.Neq members

-- members with steps alone are added, the right side last
abbrev pub weight_of_linear : Relation → List Shape → Shape → ℕ
weight_of_linear rel members right = weight_of_sum rel (with_steps (members ++ right ∷ []))
