-- The weight of a queue meets its equation.
use Rattle.std.proofs.Common.{◌≡◌, ℕ, suc, ◌+◌, ◌-◌, ◌≤◌, List, [], ◌∷◌, ◌++◌, length, drop, refl, sym, ap, ◌∙◌, arith, length-append}
use Rattle.core_cost.specs.declared.shape.Shape.{Shape}
use Rattle.core_cost.specs.Sums.{fresh_sum_of, spans_of}
use Rattle.core_cost.proofs.SumLaws.{spans-append}
use Rattle.model_meaning.specs.declared.statement.Relation.{Relation}
use Rattle.model_weight.specs.Comparisons.{weight_of_comparison}
use Rattle.model_weight.specs.Linear.{weight_of_fresh_sum, steps_of_first, weight_of_queue, weight_of_compared}

-- three members and more
pub compared_of_more : (rel : Relation) (a b : Shape) (rest : List Shape) → 1 ≤ length rest
    → weight_of_compared rel (a ∷ b ∷ rest) ≡ weight_of_fresh_sum a b + weight_of_compared rel (rest ++ fresh_sum_of a b ∷ [])
compared_of_more rel a b [] h = absurd (omega arith)
compared_of_more rel a b (c ∷ rest) h =
    let more : length (a ∷ b ∷ c ∷ rest) - 2 ≡ suc (length rest) = omega arith in
    let fewer : length (c ∷ rest ++ fresh_sum_of a b ∷ []) - 2 ≡ length rest = omega (arith, length-append rest (fresh_sum_of a b ∷ [])) in
    ap (λ times. weight_of_queue times rel (a ∷ b ∷ c ∷ rest)) more
    ∙ ap (λ times. weight_of_fresh_sum a b + weight_of_queue times rel (c ∷ rest ++ fresh_sum_of a b ∷ [])) (sym fewer)

-- one fresh sum: the front two members make way for it at the end
pub queue-step : (rel : Relation) (items more rest pushed : List Shape) (a b z : Shape)
    → items ≡ a ∷ more → more ≡ b ∷ rest → z ≡ fresh_sum_of a b → pushed ≡ rest ++ z ∷ [] → 3 ≤ length items
    → (weight_of_compared rel items ≡ weight_of_fresh_sum a b + weight_of_compared rel pushed) × (spans_of pushed ≡ spans_of items)
queue-step rel items more rest pushed a b z e f g h three =
    let all : items ≡ a ∷ b ∷ rest = e ∙ ap (λ xs. a ∷ xs) f in
    let long : 1 ≤ length rest = omega (arith, ap length all) in
    let end : pushed ≡ rest ++ fresh_sum_of a b ∷ [] = h ∙ ap (λ y. rest ++ y ∷ []) g in (
      ap (weight_of_compared rel) all ∙ compared_of_more rel a b rest long ∙ rw end refl,
      ap spans_of end ∙ spans-append rest (fresh_sum_of a b) ∙ rw all (omega arith),
    )

-- at most two are left
pub queue-end : (rel : Relation) (items rest : List Shape) (n m : ℕ) → length items ≤ 2 → n ≡ steps_of_first items → rest ≡ drop 1 items → m ≡ steps_of_first rest
    → weight_of_compared rel items ≡ weight_of_comparison rel n m
queue-end rel items rest n m h e f g = rw (g, f, e) (by_cases items h)
  where
    by_cases : (items : List Shape) → length items ≤ 2 → weight_of_compared rel items ≡ weight_of_comparison rel (steps_of_first items) (steps_of_first (drop 1 items))
    by_cases [] h = refl
    by_cases (a ∷ []) h = refl
    by_cases (a ∷ b ∷ []) h = refl
    by_cases (a ∷ b ∷ c ∷ rest) h = absurd (omega arith)
