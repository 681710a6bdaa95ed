-- What a file means: which assignments satisfy it, and what they cost.
use Rattle.std.specs.Prelude.{◌≡◌, ℕ, ◌-◌, ℤ, pos, ◌+ℤ◌, ◌≤ℤ◌, Bool, false, not, List, []}
use Rattle.std.specs.Prelude.{◌∷◌, length, slice_index_or, Option, Some, None, if◌then◌else◌}
use Rattle.opb_front.specs.declared.items.Literal.{Literal}
use Rattle.opb_front.specs.declared.items.Term.{Term}
use Rattle.opb_front.specs.declared.items.Comparison.{Comparison}
use Rattle.opb_front.specs.declared.items.Comparison.TheVariants.{AtLeast, AtMost, Equal}
use Rattle.opb_front.specs.declared.items.Constraint.{Constraint}
use Rattle.opb_front.specs.declared.items.Objective.{Objective}
use Rattle.opb_front.specs.declared.items.Opb.{Opb}

-- An assignment is a list of truth values: that of x1 first, then that of x2, and so on.

-- whether a literal is true
abbrev pub literal_truth : List Bool → Literal → Bool
literal_truth b l = if l.positive then slice_index_or b (l.index - 1) false
    else not (slice_index_or b (l.index - 1) false)

-- the sum of the coefficients of the true literals
abbrev pub sum_of : List Bool → List Term → ℤ
sum_of b [] = pos 0
sum_of b (t ∷ ts) = (if literal_truth b t.literal then t.coefficient else pos 0) +ℤ sum_of b ts

-- a sum stands to a number as it is to
abbrev pub Compares : Comparison → ℤ → ℤ → Type 0
Compares AtLeast sum bound = bound ≤ℤ sum
Compares AtMost sum bound = sum ≤ℤ bound
Compares Equal sum bound = sum ≡ bound

abbrev pub IsMet : List Bool → Constraint → Type 0
IsMet b c = Compares c.comparison (sum_of b c.terms) c.bound

abbrev pub AreMet : List Bool → List Constraint → Type 0
AreMet b [] = Unit {0}
AreMet b (c ∷ cs) = IsMet b c × AreMet b cs

-- an assignment of all variables that meets each constraint
pub record Solves (opb : Opb) (b : List Bool) : Type 0 where
  pub values : length b ≡ opb.vars
  pub met : AreMet b opb.constraints

-- what an assignment costs, where there is an objective
abbrev pub costs : Option Objective → List Bool → List ℤ
costs None b = []
costs (Some o) b = sum_of b o.terms ∷ []
