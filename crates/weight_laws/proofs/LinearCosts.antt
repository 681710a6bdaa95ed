-- What a linear statement is lowered to is no larger than its weight.
use Rattle.std.proofs.Common.{ℕ, zero, suc, ◌+◌, ◌-◌, ◌≤◌, ℤ, pos, List, [], ◌∷◌, ◌++◌, length, subst, arith}
use Rattle.order_ints.specs.declared.atom.Atom.TheVariants.{True}
use Rattle.order_ints.specs.declared.order_int.OrdInt.{OrdInt}
use Rattle.order_ints.specs.OrderMade.{constant_of}
use Rattle.order_ints.specs.OrderChange.{negated_of, shifted_of}
use Rattle.core_cost.specs.declared.shape.Shape.{Shape}
use Rattle.core_cost.specs.Sums.{fresh_sum_of}
use Rattle.core_cost.specs.Relations.{AreWithin}
use Rattle.core_forms.specs.Shapes.{steps_of, shapes_of}
use Rattle.core_forms.specs.Cores.{costs_of}
use Rattle.model_meaning.specs.declared.statement.Relation.{Relation}
use Rattle.model_meaning.specs.declared.statement.Relation.TheVariants as relation
use Rattle.statement_lower.specs.declared.made.MadeCores.{MadeCores}
use Rattle.statement_lower.specs.Comparison.{comparison_core}
use Rattle.statement_lower.specs.Queue.{fresh_sum, vars_behind_sum, last_made, queue_made}
use Rattle.statement_lower.specs.Linear.{with_steps, constant_of_members, linear_members, equal_sum, compared_sum, linear_made}
use Rattle.model_weight.specs.Comparisons.{weight_of_comparison}
use Rattle.model_weight.specs.Linear as linear
use Rattle.weight_laws.specs.Size.{size_of_made}
use Rattle.weight_laws.proofs.Integers.{IsLike}
use Rattle.weight_laws.proofs.Lists.{AreLike, within-like, length-like, negated-steps}
use Rattle.weight_laws.proofs.OperatorCosts.{one-core}
use Rattle.weight_laws.proofs.ComparisonCosts.{comparison-cost}
use Rattle.weight_laws.proofs.SumCosts.{members-like, equal-sum-cost}
use Rattle.weight_laws.proofs.FreshSums.{sum3-some}
use Rattle.weight_laws.proofs.QueueSteps.{queue-within, queue-size}

-- A queue of members.

last-size : (vars : ℕ) (rel : Relation) (k : ℤ) (a b : OrdInt) (n m : ℕ) → steps_of a ≤ n → steps_of b ≤ m
    → size_of_made (last_made vars rel k a b) ≤ vars + weight_of_comparison rel n m
last-size vars rel k a b n m h l =
    one-core vars (comparison_core rel True (shifted_of a k) (negated_of b)) (weight_of_comparison rel n m)
    (comparison-cost rel True (shifted_of a k) (negated_of b) n m h (omega (arith, negated-steps b, l)))

made-size : (times vars : ℕ) (rel : Relation) (k : ℤ) (ints : List OrdInt) (shapes : List Shape) → AreWithin (shapes_of ints) shapes
    → size_of_made (queue_made times vars rel k ints) ≤ vars + linear.weight_of_queue times rel shapes
made-size times vars rel k [] [] h = last-size vars rel k (constant_of (pos 0)) (constant_of (pos 0)) 0 0 (omega arith) (omega arith)
made-size times vars rel k [] (p ∷ shapes) h = absurd h
made-size times vars rel k (a ∷ ints) [] h = absurd h
made-size times vars rel k (a ∷ []) (p ∷ []) h = last-size vars rel k a (constant_of (pos 0)) p.steps 0 h.1.0.steps (omega arith)
made-size times vars rel k (a ∷ []) (p ∷ q ∷ shapes) h = absurd h.1.1
made-size times vars rel k (a ∷ b ∷ ints) (p ∷ []) h = absurd h.1.1
made-size zero vars rel k (a ∷ b ∷ ints) (p ∷ q ∷ shapes) h = last-size vars rel k a b p.steps q.steps h.1.0.steps h.1.1.1.0.steps
made-size (suc times) vars rel k (a ∷ b ∷ ints) (p ∷ q ∷ shapes) h =
    let z : OrdInt = fresh_sum vars a b in
    let rest : MadeCores = queue_made times (vars_behind_sum vars a b) rel k (ints ++ z ∷ []) in
    queue-size vars rest.vars times rel a b ints p q shapes (vars + 1) rest.cores h
    (made-size times (vars_behind_sum vars a b) rel k (ints ++ z ∷ []) (shapes ++ fresh_sum_of p q ∷ []) (queue-within a b ints p q shapes (vars + 1) h))

compared-size : (vars : ℕ) (rel : Relation) (ints : List OrdInt) (shapes : List Shape) (a : OrdInt) (right : Shape) → AreLike ints shapes → IsLike a right
    → size_of_made (compared_sum vars rel (linear_members ints a)) ≤ vars + linear.weight_of_compared rel (linear.with_steps (shapes ++ right ∷ []))
compared-size vars rel ints shapes a right h k =
    let all : List OrdInt = linear_members ints a in
    let given : List Shape = linear.with_steps (shapes ++ right ∷ []) in
    let like = members-like ints shapes a right h k in
    subst (λ (n : ℕ). size_of_made (compared_sum vars rel all) ≤ vars + linear.weight_of_queue (n - 2) rel given) (length-like (with_steps all) given like)
    (made-size (length (with_steps all) - 2) vars rel (constant_of_members all) (with_steps all) given (within-like (with_steps all) given like))

pub linear-size : (vars : ℕ) (rel : Relation) (ints : List OrdInt) (shapes : List Shape) (a : OrdInt) (right : Shape) → AreLike ints shapes → IsLike a right
    → size_of_made (linear_made vars rel ints a) ≤ vars + linear.weight_of_linear rel shapes right
linear-size vars relation.Leq ints shapes a right h k = compared-size vars relation.Leq ints shapes a right h k
linear-size vars relation.Geq ints shapes a right h k = compared-size vars relation.Geq ints shapes a right h k
linear-size vars relation.Eq ints shapes a right h k = one-core vars (equal_sum ints a) (linear.weight_of_linear relation.Eq shapes right) (equal-sum-cost ints shapes a right h k)
linear-size vars relation.Lt ints shapes a right h k = compared-size vars relation.Lt ints shapes a right h k
linear-size vars relation.Gt ints shapes a right h k = compared-size vars relation.Gt ints shapes a right h k
linear-size vars relation.Neq ints shapes a right h k = compared-size vars relation.Neq ints shapes a right h k

-- Each fresh sum costs something.

queue-count : (times vars : ℕ) (rel : Relation) (k : ℤ) (ints : List OrdInt)
    → length (queue_made times vars rel k ints).cores ≤ 1 + costs_of (queue_made times vars rel k ints).cores
queue-count times vars rel k [] = omega arith
queue-count times vars rel k (a ∷ []) = omega arith
queue-count zero vars rel k (a ∷ b ∷ ints) = omega arith
queue-count (suc times) vars rel k (a ∷ b ∷ ints) =
    let z : OrdInt = fresh_sum vars a b in
    let rest = queue-count times (vars_behind_sum vars a b) rel k (ints ++ z ∷ []) in
    let some = sum3-some a b z in
    omega (arith, rest, some)

compared-count : (vars : ℕ) (rel : Relation) (ints : List OrdInt) (a : OrdInt)
    → length (compared_sum vars rel (linear_members ints a)).cores ≤ 1 + costs_of (compared_sum vars rel (linear_members ints a)).cores
compared-count vars rel ints a =
    let all : List OrdInt = linear_members ints a in
    queue-count (length (with_steps all) - 2) vars rel (constant_of_members all) (with_steps all)

pub linear-count : (vars : ℕ) (rel : Relation) (ints : List OrdInt) (a : OrdInt)
    → length (linear_made vars rel ints a).cores ≤ 1 + costs_of (linear_made vars rel ints a).cores
linear-count vars relation.Leq ints a = compared-count vars relation.Leq ints a
linear-count vars relation.Geq ints a = compared-count vars relation.Geq ints a
linear-count vars relation.Eq ints a = omega arith
linear-count vars relation.Lt ints a = compared-count vars relation.Lt ints a
linear-count vars relation.Gt ints a = compared-count vars relation.Gt ints a
linear-count vars relation.Neq ints a = compared-count vars relation.Neq ints a
