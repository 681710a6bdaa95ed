-- A queue weighs no more where its members have no more steps and no wider spans.
use Rattle.std.proofs.Common.{ℕ, zero, suc, ◌+◌, ◌≤◌, List, [], ◌∷◌, ◌++◌, arith}
use Rattle.core_cost.specs.declared.shape.Shape.{Shape}
use Rattle.core_cost.specs.Sums.{fresh_sum_of}
use Rattle.core_cost.specs.Relations.{IsShape, IsWithin, AreWithin}
use Rattle.core_cost.proofs.Monotone.{leq-mono, eq-mono}
use Rattle.core_cost.proofs.ShapeLaws.{sum3-mono, IsShape-fresh, IsWithin-fresh}
use Rattle.model_meaning.specs.declared.statement.Relation.{Relation}
use Rattle.model_meaning.specs.declared.statement.Relation.TheVariants as relation
use Rattle.model_weight.specs.Comparisons.{weight_of_comparison}
use Rattle.model_weight.specs.Linear.{weight_of_fresh_sum, weight_of_queue}

comparison-mono : (rel : Relation) (n m p q : ℕ) → n ≤ p → m ≤ q → weight_of_comparison rel n m ≤ weight_of_comparison rel p q
comparison-mono relation.Leq n m p q h k = leq-mono n m p q h k
comparison-mono relation.Geq n m p q h k = leq-mono m n q p k h
comparison-mono relation.Eq n m p q h k = eq-mono n m p q h k
comparison-mono relation.Lt n m p q h k = leq-mono m n q p k h
comparison-mono relation.Gt n m p q h k = leq-mono n m p q h k
comparison-mono relation.Neq n m p q h k = eq-mono n m p q h k

pub fresh_sum-mono : (a b p q : Shape) → IsShape a → IsShape b → IsWithin a p → IsWithin b q → weight_of_fresh_sum a b ≤ weight_of_fresh_sum p q
fresh_sum-mono a b p q first second h k =
    let fresh = IsWithin-fresh a b p q h k in
    let sum = sum3-mono a b p q (fresh_sum_of a b).steps (fresh_sum_of p q).steps first second h k fresh.steps in
    let steps = fresh.steps in
    omega arith

behind : (xs ys : List Shape) (a b : Shape) → AreWithin xs ys → IsShape a → IsWithin a b → AreWithin (xs ++ a ∷ []) (ys ++ b ∷ [])
behind [] [] a b h shape within = (shape, (within, tt))
behind [] (y ∷ ys) a b h shape within = absurd h
behind (x ∷ xs) [] a b h shape within = absurd h
behind (x ∷ xs) (y ∷ ys) a b h shape within = (h.0, (h.1.0, behind xs ys a b h.1.1 shape within))

added : (a b c d : ℕ) → a ≤ c → b ≤ d → a + b ≤ c + d
added a b c d h k = omega arith

pub queue-mono : (times : ℕ) (rel : Relation) (xs ys : List Shape) → AreWithin xs ys → weight_of_queue times rel xs ≤ weight_of_queue times rel ys
queue-mono times rel [] [] h = omega arith
queue-mono times rel [] (y ∷ ys) h = absurd h
queue-mono times rel (x ∷ xs) [] h = absurd h
queue-mono times rel (a ∷ []) (p ∷ []) h = comparison-mono rel a.steps 0 p.steps 0 h.1.0.steps (omega arith)
queue-mono times rel (a ∷ []) (p ∷ q ∷ ys) h = absurd h.1.1
queue-mono times rel (a ∷ b ∷ xs) (p ∷ []) h = absurd h.1.1
queue-mono zero rel (a ∷ b ∷ xs) (p ∷ q ∷ ys) h = comparison-mono rel a.steps b.steps p.steps q.steps h.1.0.steps h.1.1.1.0.steps
queue-mono (suc times) rel (a ∷ b ∷ xs) (p ∷ q ∷ ys) h =
    added _ _ _ _ (fresh_sum-mono a b p q h.0 h.1.1.0 h.1.0 h.1.1.1.0)
    (queue-mono times rel (xs ++ fresh_sum_of a b ∷ []) (ys ++ fresh_sum_of p q ∷ [])
    (behind xs ys (fresh_sum_of a b) (fresh_sum_of p q) h.1.1.1.1 (IsShape-fresh a b h.0 h.1.1.0) (IsWithin-fresh a b p q h.1.0 h.1.1.1.0)))
