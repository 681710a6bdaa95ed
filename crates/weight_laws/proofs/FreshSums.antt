-- A fresh sum of two integers, and the sum itself, cost at most what the shapes weigh.
use Rattle.std.proofs.Common.{◌≡◌, ℕ, ◌+◌, ◌≤◌, Bool, true, false, refl, arith}
use Rattle.std.proofs.lemmas.Nat.Gcd.{dvd_trans}
use Rattle.order_ints.specs.declared.order_int.OrdInt.{OrdInt}
use Rattle.order_ints.specs.OrderMade.{integer_of_values}
use Rattle.order_ints.proofs.Fresh.{AreRising-integer_of_values}
use Rattle.core_cost.specs.declared.shape.Shape.{Shape}
use Rattle.core_cost.specs.Comparisons.{cost_of_ladder}
use Rattle.core_cost.specs.Network.{has_network, cost_of_table, cheaper, cost_of_network, cost_of_sum3_over}
use Rattle.core_cost.specs.Sums.{first_units, second_units, fresh_sum_of}
use Rattle.core_cost.specs.Relations.{IsShape, IsWithin}
use Rattle.core_cost.proofs.Monotone.{one_step-floor}
use Rattle.core_cost.proofs.ShapeLaws.{sum3-mono, IsWithin-fresh}
use Rattle.core_forms.specs.declared.form.Core.TheVariants as core
use Rattle.core_forms.specs.Shapes.{steps_of, shape_of}
use Rattle.core_forms.specs.Cost.{cost_of}
use Rattle.core_forms.specs.Sums.{sums_of}
use Rattle.core_forms.proofs.ShapeLaws.{IsShape-of}
use Rattle.core_forms.proofs.SumValues.{sums-ascend, fresh-within}
use Rattle.model_weight.specs.Linear.{weight_of_fresh_sum}

within-trans : (a b c : Shape) → IsWithin a b → IsWithin b c → IsWithin a c
within-trans a b c h k = record {
  steps = omega (arith, h.steps, k.steps);
  span = omega (arith, h.span, k.span);
  divisor = dvd_trans c.divisor k.divisor h.divisor;
}

-- what is known of the fresh integer with the variables from one on that stands for the sum of two integers within two shapes
pub record IsFreshSum (a b : OrdInt) (p q : Shape) (first : ℕ) : Type 0 where
  pub shape : IsShape (shape_of (integer_of_values (sums_of a b) first))
  pub within : IsWithin (shape_of (integer_of_values (sums_of a b) first)) (fresh_sum_of p q)
  pub size : steps_of (integer_of_values (sums_of a b) first) + cost_of (core.Sum3 a b (integer_of_values (sums_of a b) first)) ≤ weight_of_fresh_sum p q

pub fresh-sum : (a b : OrdInt) (p q : Shape) (first : ℕ) → IsShape (shape_of a) → IsShape (shape_of b) → IsWithin (shape_of a) p → IsWithin (shape_of b) q
    → IsFreshSum a b p q first
fresh-sum a b p q first sa sb wa wb =
    let z : OrdInt = integer_of_values (sums_of a b) first in
    let within = within-trans (shape_of z) (fresh_sum_of (shape_of a) (shape_of b)) (fresh_sum_of p q) (fresh-within a b first) (IsWithin-fresh (shape_of a) (shape_of b) p q wa wb) in
    let cost = sum3-mono (shape_of a) (shape_of b) p q (steps_of z) (fresh_sum_of p q).steps sa sb wa wb within.steps in
    let steps = within.steps in
    record {
      shape = IsShape-of z (AreRising-integer_of_values (sums_of a b) first (sums-ascend a b));
      within = within;
      size = omega (arith, cost, steps);
    }

-- A sum costs something.

table-some : (n m : ℕ) → 1 ≤ cost_of_table n m
table-some n m = omega arith

over-some : (n m c N M : ℕ) → 1 ≤ cost_of_sum3_over n m c N M
over-some n m c N M = by_network (has_network N M) refl
  where
    by_network : (t : Bool) → has_network N M ≡ t → 1 ≤ cost_of_ladder n + cost_of_ladder m + cost_of_ladder c + cheaper t (cost_of_table n m) (cost_of_network N M c)
    by_network true e = omega (arith, table-some n m, one_step-floor N M c e)
    by_network false e = omega (arith, table-some n m)

pub sum3-some : (a b c : OrdInt) → 1 ≤ cost_of (core.Sum3 a b c)
sum3-some a b c = over-some (steps_of a) (steps_of b) (steps_of c) (first_units (shape_of a) (shape_of b)) (second_units (shape_of a) (shape_of b))
