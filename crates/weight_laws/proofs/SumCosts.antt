-- The cores of sums cost at most what their statements weigh.
use Rattle.std.proofs.Common.{ℕ, ◌≤◌, ℤ, List, [], ◌∷◌, ◌++◌, map}
use Rattle.order_ints.specs.declared.order_int.OrdInt.{OrdInt}
use Rattle.order_ints.specs.declared.order_int.MapValue.{MapValue}
use Rattle.order_ints.specs.OrderMade.{integer_of_atom}
use Rattle.order_ints.specs.OrderChange.{negated_of}
use Rattle.core_cost.specs.declared.shape.Shape.{Shape}
use Rattle.core_cost.proofs.ShapeLaws.{sum-mono}
use Rattle.core_forms.specs.Shapes.{shapes_of}
use Rattle.core_forms.specs.Cost.{cost_of}
use Rattle.model_meaning.specs.declared.model.Decl.{Decl}
use Rattle.model_meaning.specs.declared.what.BoolTerm.{BoolTerm}
use Rattle.model_meaning.specs.declared.what.IntTerm.{IntTerm}
use Rattle.model_meaning.specs.declared.statement.Relation.TheVariants as relation
use Rattle.model_meaning.specs.WellTyped.{NumberFits, NumbersFit}
use Rattle.statement_lower.specs.Terms.{atoms_of, integer_of, integers_of}
use Rattle.statement_lower.specs.Linear.{scaled_each, with_steps, linear_members, equal_sum}
use Rattle.model_weight.specs.Shapes.{shape_in}
use Rattle.model_weight.specs.Linear as linear
use Rattle.weight_laws.proofs.Integers.{EntriesAre, IsLike, like-negated}
use Rattle.weight_laws.proofs.Lists.{AreLike, within-like, like-append, like-with_steps, like-bits, like-integer, like-integers, like-multiples}

-- the members of a linear statement, and last minus the right side, of which those with steps are added up
pub members-like : (ints : List OrdInt) (shapes : List Shape) (a : OrdInt) (right : Shape) → AreLike ints shapes → IsLike a right
    → AreLike (with_steps (linear_members ints a)) (linear.with_steps (shapes ++ right ∷ []))
members-like ints shapes a right h k =
    like-with_steps (linear_members ints a) (shapes ++ right ∷ []) (like-append ints (negated_of a ∷ []) shapes (right ∷ []) h (like-negated a right k, tt))

pub equal-sum-cost : (ints : List OrdInt) (shapes : List Shape) (a : OrdInt) (right : Shape) → AreLike ints shapes → IsLike a right
    → cost_of (equal_sum ints a) ≤ linear.weight_of_linear relation.Eq shapes right
equal-sum-cost ints shapes a right h k =
    let like = members-like ints shapes a right h k in
    sum-mono (shapes_of (with_steps (linear_members ints a))) (linear.with_steps (shapes ++ right ∷ []))
    (within-like (with_steps (linear_members ints a)) (linear.with_steps (shapes ++ right ∷ [])) like)

-- the same of the sums of the table: multiples of Booleans, integers, multiples of integers
module _ (n : ℕ) (ds more : List Decl) (entries : List MapValue) (h : EntriesAre ds entries) where
  pub equal-truths : (cs : List ℤ) (xs : List BoolTerm) (i : IntTerm) → NumberFits ds n i
      → cost_of (equal_sum (scaled_each cs (map integer_of_atom (atoms_of entries xs))) (integer_of entries i))
      ≤ linear.weight_of_linear relation.Eq (linear.scaled_truths cs xs) (shape_in (ds ++ more) i)
  equal-truths cs xs i k =
      equal-sum-cost (scaled_each cs (map integer_of_atom (atoms_of entries xs))) (linear.scaled_truths cs xs) (integer_of entries i) (shape_in (ds ++ more) i)
      (like-bits entries cs xs) (like-integer n ds more entries h i k)

  pub equal-numbers : (is : List IntTerm) (i : IntTerm) → NumbersFit ds n is → NumberFits ds n i
      → cost_of (equal_sum (integers_of entries is) (integer_of entries i)) ≤ linear.weight_of_linear relation.Eq (linear.numbers (ds ++ more) is) (shape_in (ds ++ more) i)
  equal-numbers is i l k =
      equal-sum-cost (integers_of entries is) (linear.numbers (ds ++ more) is) (integer_of entries i) (shape_in (ds ++ more) i)
      (like-integers n ds more entries h is l) (like-integer n ds more entries h i k)

  pub equal-multiples : (cs : List ℤ) (is : List IntTerm) (i : IntTerm) → NumbersFit ds n is → NumberFits ds n i
      → cost_of (equal_sum (scaled_each cs (integers_of entries is)) (integer_of entries i))
      ≤ linear.weight_of_linear relation.Eq (linear.scaled_numbers (ds ++ more) cs is) (shape_in (ds ++ more) i)
  equal-multiples cs is i l k =
      equal-sum-cost (scaled_each cs (integers_of entries is)) (linear.scaled_numbers (ds ++ more) cs is) (integer_of entries i) (shape_in (ds ++ more) i)
      (like-multiples n ds more entries h cs is l) (like-integer n ds more entries h i k)
