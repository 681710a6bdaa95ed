-- One step of a queue: the first two members make way for a fresh sum behind the others.
use Rattle.std.proofs.Common.{ℕ, suc, ◌+◌, ◌≤◌, List, [], ◌∷◌, ◌++◌, arith}
use Rattle.order_ints.specs.declared.order_int.OrdInt.{OrdInt}
use Rattle.order_ints.specs.OrderMade.{integer_of_values}
use Rattle.core_cost.specs.declared.shape.Shape.{Shape}
use Rattle.core_cost.specs.Sums.{fresh_sum_of}
use Rattle.core_cost.specs.Relations.{IsShape, IsWithin, AreWithin}
use Rattle.core_forms.specs.declared.form.Core.{Core}
use Rattle.core_forms.specs.declared.form.Core.TheVariants as core
use Rattle.core_forms.specs.Shapes.{steps_of, shape_of, shapes_of}
use Rattle.core_forms.specs.Cores.{costs_of}
use Rattle.core_forms.specs.Sums.{sums_of}
use Rattle.model_meaning.specs.declared.statement.Relation.{Relation}
use Rattle.model_weight.specs.Linear.{weight_of_queue}
use Rattle.weight_laws.proofs.FreshSums.{fresh-sum}

within-behind : (ints : List OrdInt) (shapes : List Shape) (z : OrdInt) (s : Shape) → AreWithin (shapes_of ints) shapes → IsShape (shape_of z) → IsWithin (shape_of z) s
    → AreWithin (shapes_of (ints ++ z ∷ [])) (shapes ++ s ∷ [])
within-behind [] [] z s h shape within = (shape, (within, tt))
within-behind [] (t ∷ shapes) z s h shape within = absurd h
within-behind (a ∷ ints) [] z s h shape within = absurd h
within-behind (a ∷ ints) (t ∷ shapes) z s h shape within = (h.0, (h.1.0, within-behind ints shapes z s h.1.1 shape within))

-- the members with the fresh integer behind the others are within the shapes with the fresh shape behind the others
pub queue-within : (a b : OrdInt) (ints : List OrdInt) (p q : Shape) (shapes : List Shape) (first : ℕ) → AreWithin (shapes_of (a ∷ b ∷ ints)) (p ∷ q ∷ shapes)
    → AreWithin (shapes_of (ints ++ integer_of_values (sums_of a b) first ∷ [])) (shapes ++ fresh_sum_of p q ∷ [])
queue-within a b ints p q shapes first h =
    let fresh = fresh-sum a b p q first h.0 h.1.1.0 h.1.0 h.1.1.1.0 in
    within-behind ints shapes (integer_of_values (sums_of a b) first) (fresh_sum_of p q) h.1.1.1.1 fresh.shape fresh.within

-- where the rest of the queue is no larger than its weight, so is the queue
pub queue-size : (vars behind times : ℕ) (rel : Relation) (a b : OrdInt) (ints : List OrdInt) (p q : Shape) (shapes : List Shape) (first : ℕ) (cores : List Core)
    → AreWithin (shapes_of (a ∷ b ∷ ints)) (p ∷ q ∷ shapes)
    → behind + costs_of cores ≤ vars + steps_of (integer_of_values (sums_of a b) first) + weight_of_queue times rel (shapes ++ fresh_sum_of p q ∷ [])
    → behind + costs_of (core.Sum3 a b (integer_of_values (sums_of a b) first) ∷ cores) ≤ vars + weight_of_queue (suc times) rel (p ∷ q ∷ shapes)
queue-size vars behind times rel a b ints p q shapes first cores h rest =
    let fresh = fresh-sum a b p q first h.0 h.1.1.0 h.1.0 h.1.1.1.0 in
    let size = fresh.size in
    omega (arith, size, rest)
