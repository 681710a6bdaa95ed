-- The cost of a sum of integers, by their shapes.
use Rattle.std.specs.Prelude.{ℕ, ◌+◌, ◌-◌, ◌/◌, ◌&&◌, min, Bool, nat_lt, List, [], ◌∷◌}
use Rattle.std.specs.Prelude.{◌++◌, length}
use Rattle.std.proofs.Common.{zero, suc}
use Rattle.core_cost.specs.declared.shape.Shape.{Shape}
use Rattle.core_cost.specs.Divisor.{common_divisor_of}
use Rattle.core_cost.specs.Arithmetic.{pairs_of_values}
use Rattle.core_cost.specs.Network.{has_network, cost_of_table, cost_of_network, cost_of_sum3_over}

-- the spans of A and of B in units of the common divisor of their weights; without steps they are 0
abbrev pub first_units : Shape → Shape → ℕ
first_units a b = a.span / common_divisor_of a.divisor b.divisor

abbrev pub second_units : Shape → Shape → ℕ
second_units a b = b.span / common_divisor_of a.divisor b.divisor

-- A + B = C, where C has c steps
abbrev pub cost_of_sum3 : Shape → Shape → ℕ → ℕ
cost_of_sum3 a b c = cost_of_sum3_over a.steps b.steps c (first_units a b) (second_units a b)

-- whether the sum of A and B, which has c steps, has a network that costs less than its table
abbrev pub network_is_cheaper : Shape → Shape → ℕ → Bool
network_is_cheaper a b c =
    has_network (first_units a b) (second_units a b)
    && nat_lt (cost_of_network (first_units a b) (second_units a b) c) (cost_of_table a.steps b.steps)

-- a constant
abbrev pub constant : Shape
constant = record { steps = 0; span = 0; divisor = 0 }

-- n steps of weight 1
abbrev pub unit_steps : ℕ → Shape
unit_steps zero = constant
unit_steps (suc n) = record { steps = suc n; span = suc n; divisor = 1 }

-- the fresh integer that stands for the sum of A and B: its values are the sums of their values, or every number
-- between the least and the greatest sum that is apart from the least by a multiple of the common divisor, whichever
-- are fewer
abbrev pub fresh_sum_of : Shape → Shape → Shape
fresh_sum_of a b = record {
  steps = min (pairs_of_values a.steps b.steps - 1) ((a.span + b.span) / common_divisor_of a.divisor b.divisor);
  span = a.span + b.span;
  divisor = common_divisor_of a.divisor b.divisor;
}

-- the members' sum is a number, with at most so many fresh sums: up to three members are one sum of two integers, and
-- else a fresh sum at the end of the list stands for the first two
abbrev pub sum_within : ℕ → List Shape → ℕ
sum_within most [] = cost_of_sum3 constant constant 0
sum_within most (a ∷ []) = cost_of_sum3 a constant 0
sum_within most (a ∷ b ∷ []) = cost_of_sum3 a constant b.steps
sum_within most (a ∷ b ∷ c ∷ []) = cost_of_sum3 a b c.steps
sum_within zero (a ∷ b ∷ c ∷ d ∷ rest) = 0
sum_within (suc most) (a ∷ b ∷ c ∷ d ∷ rest) =
    (fresh_sum_of a b).steps + cost_of_sum3 a b (fresh_sum_of a b).steps
    + sum_within most (c ∷ d ∷ rest ++ (fresh_sum_of a b ∷ []))

-- the members' sum is a number; each fresh sum makes the list shorter by one
unfoldable pub cost_of_sum : List Shape → ℕ
cost_of_sum members = sum_within (length members) members

-- the members' spans together
abbrev pub spans_of : List Shape → ℕ
spans_of [] = 0
spans_of (a ∷ members) = a.span + spans_of members
