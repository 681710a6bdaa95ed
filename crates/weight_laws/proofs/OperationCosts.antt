-- The cores of operations on integers cost at most what their statements weigh.
use Rattle.std.proofs.Common.{◌≡◌, ℕ, zero, suc, ◌+◌, ◌-◌, ◌/◌, ◌≤◌, ℤ, pos, negsuc, ◌-ℤ◌, min, List, [], ◌∷◌, length, ◌⊎◌, inl, inr, arith}
use Rattle.std.proofs.Math.Nat.{div-zero, div-mul-le_self}
use Rattle.std.proofs.lemmas.Nat.{le-div}
use Rattle.std.proofs.lemmas.Int.{ints}
use Rattle.order_ints.specs.declared.order_int.OrdInt.{OrdInt}
use Rattle.order_ints.specs.OrderRange.{low_of, high_of}
use Rattle.order_ints.specs.OrderChange.{negated_of}
use Rattle.core_cost.specs.Arithmetic.{cost_of_max}
use Rattle.core_cost.specs.Relations.{AreAtMost}
use Rattle.core_cost.proofs.Monotone.{max-mono, prod-mono, div_mod-mono}
use Rattle.core_cost.proofs.ShapeLaws.{sum3-mono}
use Rattle.core_forms.specs.declared.form.Core.TheVariants as core
use Rattle.core_forms.specs.Shapes.{steps_of, shape_of, numbers_of_steps}
use Rattle.core_forms.specs.Cost.{cost_of}
use Rattle.core_forms.specs.Cores.{costs_of}
use Rattle.core_forms.proofs.ShapeLaws.{IsShape-of}
use Rattle.model_meaning.specs.declared.model.Kind.{Kind}
use Rattle.model_meaning.specs.declared.statement.Arithmetic.{Arithmetic}
use Rattle.model_meaning.specs.declared.statement.Arithmetic.TheVariants as arithmetic
use Rattle.model_meaning.specs.Domains.{at_least_zero}
use Rattle.statement_lower.specs.Lines.{fresh_range, least_core, absolute_core, most_remainder, most_quotient, operation_made}
use Rattle.model_weight.specs.Shapes as counted
use Rattle.model_weight.specs.Statements.{steps_of_remainder, steps_of_quotient, weight_of_operation}
use Rattle.weight_laws.specs.Size.{size_of_made}
use Rattle.weight_laws.proofs.Integers.{IsIn, steps-in, within-in}
use Rattle.weight_laws.proofs.Lists.{negated-steps, numbers-negated}
use Rattle.weight_laws.proofs.ComparisonCosts.{fresh-steps}

-- The greatest and the least member.

pub greatest-cost : (ints : List OrdInt) (c : OrdInt) (ns : List ℕ) (m : ℕ) → AreAtMost (numbers_of_steps ints) ns → steps_of c ≤ m
    → cost_of (core.Max ints c) ≤ cost_of_max ns m
greatest-cost ints c ns m h k = max-mono (numbers_of_steps ints) ns (steps_of c) m h k

pub least-cost : (ints : List OrdInt) (c : OrdInt) (ns : List ℕ) (m : ℕ) → AreAtMost (numbers_of_steps ints) ns → steps_of c ≤ m
    → cost_of (least_core ints c) ≤ cost_of_max ns m
least-cost ints c ns m h k =
    rw (numbers-negated ints, negated-steps c) (max-mono (numbers_of_steps ints) ns (steps_of c) m h k)

pub absolute-cost : (a b : OrdInt) (n m : ℕ) → steps_of a ≤ n → steps_of b ≤ m → cost_of (absolute_core a b) ≤ cost_of_max (n ∷ n ∷ []) m
absolute-cost a b n m h k =
    max-mono (steps_of a ∷ steps_of (negated_of a) ∷ []) (n ∷ n ∷ []) (steps_of b) m (h, (omega (arith, negated-steps a, h), tt)) k

-- The fresh integers of divisions.

less-one : (z : ℤ) → at_least_zero (z -ℤ pos 1) ≤ at_least_zero z - 1
less-one (pos zero) = omega arith
less-one (pos (suc n)) = let e : pos (suc n) -ℤ pos 1 ≡ pos n = omega (arith, ints) in rw e (omega arith)
less-one (negsuc n) = omega arith

remainder-few : (i j : Kind) (a b : OrdInt) → IsIn i a → IsIn j b → most_remainder a b ≤ steps_of_remainder i j
remainder-few i j a b h k =
    lesser (at_least_zero (high_of a)) (at_least_zero (high_of b -ℤ pos 1)) (counted.greatest_of i) (counted.greatest_of j) h.greatest
    (let less = less-one (high_of b) in let g = k.greatest in omega arith)
  where
    lesser : (p q p' q' : ℕ) → p ≤ p' → q ≤ q' - 1 → min p q ≤ min p' (q' - 1)
    lesser p q p' q' x y = omega arith

quotients : (h l H L : ℕ) → h ≤ H → (l ≡ L) ⊎ (l ≡ 0) → h / l ≤ H / L
quotients h zero H L le e = let none = div-zero h in omega arith
quotients h (suc l) H L le (inl e) = let p = div-mul-le_self h (suc l) in rw (← e) (le-div (h / suc l) H (suc l) (omega arith) (omega arith))
quotients h (suc l) H L le (inr e) = absurd (omega arith)

quotient-few : (i j : Kind) (a b : OrdInt) → IsIn i a → IsIn j b → most_quotient a b ≤ steps_of_quotient i j
quotient-few i j a b h k =
    quotients (at_least_zero (high_of a)) (at_least_zero (low_of b)) (counted.greatest_of i) (counted.least_of j) h.greatest k.least

-- An operation on two integers gives the third.

pub operation-size : (vars : ℕ) (o : Arithmetic) (a b c : OrdInt) (i j k : Kind) → IsIn i a → IsIn j b → IsIn k c
    → size_of_made (operation_made vars o a b c) ≤ vars + weight_of_operation o i j k
operation-size vars arithmetic.Plus a b c i j k ha hb hc =
    let cost = sum3-mono (shape_of a) (shape_of b) (counted.shape_of i) (counted.shape_of j) (steps_of c) (counted.steps_of k)
    (IsShape-of a ha.rising) (IsShape-of b hb.rising) (within-in i a ha) (within-in j b hb) (steps-in k c hc) in
    omega (arith, cost)
operation-size vars arithmetic.Times a b c i j k ha hb hc =
    let cost = prod-mono (steps_of a) (steps_of b) (steps_of c) (counted.steps_of i) (counted.steps_of j) (counted.steps_of k) (steps-in i a ha) (steps-in j b hb) (steps-in k c hc) in
    omega (arith, cost)
operation-size vars arithmetic.Div a b c i j k ha hb hc =
    let few = remainder-few i j a b ha hb in
    let steps = fresh-steps vars (most_remainder a b) in
    let cost = div_mod-mono (steps_of a) (steps_of b) (steps_of c) (steps_of (fresh_range vars (most_remainder a b)))
    (counted.steps_of i) (counted.steps_of j) (counted.steps_of k) (steps_of_remainder i j)
    (steps-in i a ha) (steps-in j b hb) (steps-in k c hc) (omega (arith, steps, few)) in
    omega (arith, cost, few)
operation-size vars arithmetic.Mod a b c i j k ha hb hc =
    let few = quotient-few i j a b ha hb in
    let steps = fresh-steps vars (most_quotient a b) in
    let cost = div_mod-mono (steps_of a) (steps_of b) (steps_of (fresh_range vars (most_quotient a b))) (steps_of c)
    (counted.steps_of i) (counted.steps_of j) (steps_of_quotient i j) (counted.steps_of k)
    (steps-in i a ha) (steps-in j b hb) (omega (arith, steps, few)) (steps-in k c hc) in
    omega (arith, cost, few)
operation-size vars arithmetic.Max a b c i j k ha hb hc =
    let cost = greatest-cost (a ∷ b ∷ []) c (counted.steps_of i ∷ counted.steps_of j ∷ []) (counted.steps_of k) (steps-in i a ha, (steps-in j b hb, tt)) (steps-in k c hc) in
    omega (arith, cost)
operation-size vars arithmetic.Min a b c i j k ha hb hc =
    let cost = least-cost (a ∷ b ∷ []) c (counted.steps_of i ∷ counted.steps_of j ∷ []) (counted.steps_of k) (steps-in i a ha, (steps-in j b hb, tt)) (steps-in k c hc) in
    omega (arith, cost)

pub operation-count : (vars : ℕ) (o : Arithmetic) (a b c : OrdInt)
    → length (operation_made vars o a b c).cores ≤ 1 + costs_of (operation_made vars o a b c).cores
operation-count vars arithmetic.Plus a b c = omega arith
operation-count vars arithmetic.Times a b c = omega arith
operation-count vars arithmetic.Div a b c = omega arith
operation-count vars arithmetic.Mod a b c = omega arith
operation-count vars arithmetic.Max a b c = omega arith
operation-count vars arithmetic.Min a b c = omega arith
