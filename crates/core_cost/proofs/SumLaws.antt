-- The cost of a sum meets its equation.
use Rattle.std.proofs.Common.{◌≡◌, ◌+◌, ◌≤◌, List, [], ◌∷◌, ◌++◌, length, suc, refl, sym, ap, ◌∙◌, arith, length-append}
use Rattle.core_cost.specs.declared.shape.Shape.{Shape}
use Rattle.core_cost.specs.Sums.{cost_of_sum3, constant, fresh_sum_of, sum_within, cost_of_sum, spans_of}

-- four members and more
pub sum_of_more : (a b : Shape) (rest : List Shape) → 2 ≤ length rest
    → cost_of_sum (a ∷ b ∷ rest)
    ≡ (fresh_sum_of a b).steps + cost_of_sum3 a b (fresh_sum_of a b).steps + cost_of_sum (rest ++ fresh_sum_of a b ∷ [])
unfolding cost_of_sum
sum_of_more a b [] h = absurd (omega arith)
sum_of_more a b (c ∷ []) h = absurd (omega arith)
sum_of_more a b (c ∷ d ∷ rest) h =
    let e : suc (suc (length (rest ++ fresh_sum_of a b ∷ []))) ≡ suc (suc (suc (length rest))) = omega (arith, length-append rest (fresh_sum_of a b ∷ [])) in
    ap (λ most. (fresh_sum_of a b).steps + cost_of_sum3 a b (fresh_sum_of a b).steps + sum_within most (c ∷ d ∷ rest ++ (fresh_sum_of a b ∷ []))) (sym e)

-- up to three members
pub sum_of_none : (members : List Shape) → length members ≡ 0 → cost_of_sum members ≡ cost_of_sum3 constant constant 0
unfolding cost_of_sum
sum_of_none [] h = refl
sum_of_none (a ∷ members) h = absurd (omega arith)

pub sum_of_one : (a : Shape) (members rest : List Shape) → members ≡ a ∷ rest → length rest ≡ 0 → cost_of_sum members ≡ cost_of_sum3 a constant 0
unfolding cost_of_sum
sum_of_one a members [] e h = ap cost_of_sum e
sum_of_one a members (b ∷ rest) e h = absurd (omega arith)

pub sum_of_two : (a b : Shape) (members rest more : List Shape) → members ≡ a ∷ rest → rest ≡ b ∷ more → length more ≡ 0
    → cost_of_sum members ≡ cost_of_sum3 a constant b.steps
unfolding cost_of_sum
sum_of_two a b members rest [] e f h = ap cost_of_sum (e ∙ ap (λ xs. a ∷ xs) f)
sum_of_two a b members rest (c ∷ more) e f h = absurd (omega arith)

pub sum_of_three : (a b c : Shape) (members rest more last : List Shape) → members ≡ a ∷ rest → rest ≡ b ∷ more → more ≡ c ∷ last
    → length last ≡ 0 → cost_of_sum members ≡ cost_of_sum3 a b c.steps
unfolding cost_of_sum
sum_of_three a b c members rest more [] e f g h = ap cost_of_sum (e ∙ ap (λ xs. a ∷ xs) (f ∙ ap (λ xs. b ∷ xs) g))
sum_of_three a b c members rest more (d ∷ last) e f g h = absurd (omega arith)

pub spans-append : (members : List Shape) (a : Shape) → spans_of (members ++ a ∷ []) ≡ spans_of members + a.span
spans-append [] a = omega arith
spans-append (b ∷ members) a = omega (arith, spans-append members a)

-- one fresh sum: the front two members make way for it at the end
pub sum-step : (items more rest pushed : List Shape) (a b z : Shape)
    → items ≡ a ∷ more → more ≡ b ∷ rest → z ≡ fresh_sum_of a b → pushed ≡ rest ++ z ∷ [] → 4 ≤ length items
    → (cost_of_sum items ≡ z.steps + cost_of_sum3 a b z.steps + cost_of_sum pushed) × (spans_of pushed ≡ spans_of items)
sum-step items more rest pushed a b z e f g h four =
    let all : items ≡ a ∷ b ∷ rest = e ∙ ap (λ xs. a ∷ xs) f in
    let long : 2 ≤ length rest = omega (arith, ap length all) in
    let end : pushed ≡ rest ++ fresh_sum_of a b ∷ [] = h ∙ ap (λ y. rest ++ y ∷ []) g in (
      ap cost_of_sum all ∙ sum_of_more a b rest long ∙ rw (g, end) refl,
      ap spans_of end ∙ spans-append rest (fresh_sum_of a b) ∙ rw all (omega arith),
    )
