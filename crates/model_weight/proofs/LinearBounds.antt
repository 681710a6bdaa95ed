-- A linear sum weighs at most a multiple of its spans.
use Rattle.std.proofs.Common.{◌≡◌, ℕ, zero, suc, ◌+◌, ◌*◌, ◌^◌, ◌<◌, ◌≤◌, ℤ, pos, negsuc, unsigned_abs, Bool, true, false, List, [], ◌∷◌, ◌++◌, length, inl, inr, refl, sym, ap, ◌∙◌, arith, length-append}
use Rattle.std.specs.Prelude.{◌==◌, if◌then◌else◌}
use Rattle.std.specs.Ordering.{int_eq}
use Rattle.std.proofs.Math.Nat.{mul-le-mul, mul_left_comm, div-le_self}
use Rattle.std.proofs.lemmas.Bool.{cases_lt, false≢true}
use Rattle.std.proofs.lemmas.Bool.Decides.{Decides-int_eq}
use Rattle.core_cost.specs.declared.shape.Shape.{Shape}
use Rattle.core_cost.specs.Divisor.{common_divisor_of}
use Rattle.core_cost.specs.Sums.{first_units, second_units, constant, unit_steps, fresh_sum_of, cost_of_sum3, cost_of_sum, spans_of}
use Rattle.core_cost.specs.Relations.{IsShape, AreShapes}
use Rattle.core_cost.proofs.Monotone.{ladder_lem}
use Rattle.core_cost.proofs.NetworkBounds.{sum3_over-bound}
use Rattle.core_cost.proofs.ShapeLaws.{steps-le_units, common-divides_first, common-divides_second, zero_common_first, zero_common_second, IsShape-constant, IsShape-fresh, IsShape-units}
use Rattle.core_cost.proofs.SumLaws.{sum_of_more, spans-append}
use Rattle.core_cost.proofs.SumBounds.{sum-bound}
use Rattle.model_meaning.specs.declared.what.BoolTerm.{BoolTerm}
use Rattle.model_meaning.specs.declared.what.IntTerm.{IntTerm}
use Rattle.model_meaning.specs.declared.model.Decl.{Decl}
use Rattle.model_meaning.specs.declared.statement.Relation.{Relation}
use Rattle.model_meaning.specs.declared.statement.Relation.TheVariants as relation
use Rattle.model_meaning.specs.Limits.{DeclsInLimit}
use Rattle.model_weight.proofs.Spans.{shape-in}
use Rattle.model_weight.specs.Shapes.{shape_in}
use Rattle.model_weight.specs.Comparisons.{weight_of_comparison}
use Rattle.model_weight.specs.Linear.{scaled, scaled_truths, scaled_numbers, numbers, with_steps, weight_of_fresh_sum, weight_of_compared, weight_of_sum}
use Rattle.model_weight.proofs.Queues.{compared_of_more}

-- The members are shapes of integers.

no_number : (c : ℤ) → unsigned_abs c ≡ 0 → c ≡ pos 0
no_number (pos n) e = ap pos e
no_number (negsuc n) e = absurd (omega arith)

IsShape-times : (f : ℕ) (a : Shape) → 1 ≤ f → IsShape a → IsShape (record { steps = a.steps; span = f * a.span; divisor = f * a.divisor })
IsShape-times f a some shape = record { weights = weights; none = none }
  where
    weights : a.steps * (f * a.divisor) ≤ f * a.span
    weights = rw (mul_left_comm a.steps f a.divisor) (mul-le-mul (omega arith) shape.weights)

    none : f * a.divisor ≡ 0 → (a.steps ≡ 0) × (f * a.span ≡ 0)
    none e =
        let l : 1 * a.divisor ≤ f * a.divisor = mul-le-mul some (omega arith) in
        let empty = shape.none (omega arith) in
        let no_span : f * a.span ≡ 0 = rw (empty.1) (omega arith) in
        (empty.0, no_span)

IsShape-scaled : (c : ℤ) (a : Shape) → IsShape a → IsShape (scaled c a)
IsShape-scaled c a shape = by_test (int_eq c (pos 0)) refl
  where
    by_test : (t : Bool) → int_eq c (pos 0) ≡ t → IsShape (if t then constant else record { steps = a.steps; span = unsigned_abs c * a.span; divisor = unsigned_abs c * a.divisor })
    by_test true e = IsShape-constant
    by_test false e = IsShape-times (unsigned_abs c) a some shape
      where
        some : 1 ≤ unsigned_abs c
        some = elim (cases_lt 0 (unsigned_abs c)) [
          | inl l ↦ l
          | inr none ↦ absurd (false≢true (sym e ∙ (Decides-int_eq c (pos 0)).1 (no_number c (omega arith))))
        ]

kept : (a : Shape) (rest : List Shape) → IsShape a → AreShapes (with_steps rest) → AreShapes (with_steps (a ∷ rest))
kept a rest shape h = by_test (a.steps == 0)
  where
    by_test : (b : Bool) → AreShapes (if b then with_steps rest else a ∷ with_steps rest)
    by_test true = h
    by_test false = (shape, h)

pub AreShapes-numbers : (ds : List Decl) (limit : DeclsInLimit ds) (is : List IntTerm) (right : Shape) → IsShape right → AreShapes (with_steps (numbers ds is ++ right ∷ []))
AreShapes-numbers ds limit [] right shape = kept right [] shape tt
AreShapes-numbers ds limit (i ∷ is) right shape = kept (shape_in ds i) (numbers ds is ++ right ∷ []) (shape-in ds i limit) (AreShapes-numbers ds limit is right shape)

pub AreShapes-scaled_numbers : (ds : List Decl) (limit : DeclsInLimit ds) (cs : List ℤ) (is : List IntTerm) (right : Shape) → IsShape right → AreShapes (with_steps (scaled_numbers ds cs is ++ right ∷ []))
AreShapes-scaled_numbers ds limit [] is right shape = kept right [] shape tt
AreShapes-scaled_numbers ds limit (c ∷ cs) [] right shape = kept right [] shape tt
AreShapes-scaled_numbers ds limit (c ∷ cs) (i ∷ is) right shape =
    kept (scaled c (shape_in ds i)) (scaled_numbers ds cs is ++ right ∷ []) (IsShape-scaled c (shape_in ds i) (shape-in ds i limit)) (AreShapes-scaled_numbers ds limit cs is right shape)

pub AreShapes-scaled_truths : (cs : List ℤ) (xs : List BoolTerm) (right : Shape) → IsShape right → AreShapes (with_steps (scaled_truths cs xs ++ right ∷ []))
AreShapes-scaled_truths [] xs right shape = kept right [] shape tt
AreShapes-scaled_truths (c ∷ cs) [] right shape = kept right [] shape tt
AreShapes-scaled_truths (c ∷ cs) (x ∷ xs) right shape =
    kept (scaled c (unit_steps 1)) (scaled_truths cs xs ++ right ∷ []) (IsShape-scaled c (unit_steps 1) (IsShape-units 1)) (AreShapes-scaled_truths cs xs right shape)

-- They are no more than the terms.

pub length-with_steps : (members : List Shape) → length (with_steps members) ≤ length members
length-with_steps [] = omega arith
length-with_steps (a ∷ rest) = by_test (a.steps == 0) (length-with_steps rest)
  where
    by_test : (b : Bool) → length (with_steps rest) ≤ length rest → length (if b then with_steps rest else a ∷ with_steps rest) ≤ suc (length rest)
    by_test true h = omega arith
    by_test false h = omega arith

-- The queue weighs little more than a sum that is one core.

pub comparison-bound : (rel : Relation) (n m : ℕ) → weight_of_comparison rel n m ≤ 11 * (n + m) + 11
comparison-bound relation.Leq n m = omega (arith, ladder_lem n, ladder_lem m)
comparison-bound relation.Geq n m = omega (arith, ladder_lem n, ladder_lem m)
comparison-bound relation.Eq n m = omega (arith, ladder_lem n, ladder_lem m)
comparison-bound relation.Lt n m = omega (arith, ladder_lem n, ladder_lem m)
comparison-bound relation.Gt n m = omega (arith, ladder_lem n, ladder_lem m)
comparison-bound relation.Neq n m = omega (arith, ladder_lem n, ladder_lem m)

steps-le_span : (a : Shape) → IsShape a → a.steps ≤ a.span
steps-le_span a shape =
    elim (cases_lt 0 a.divisor) [
      | inl some ↦ let l : a.steps * 1 ≤ a.steps * a.divisor = mul-le-mul (omega arith) some in let w = shape.weights in omega arith
      | inr none ↦ let e = (shape.none (omega arith)).0 in omega arith
    ]

fresh-le_span : (a b : Shape) → (fresh_sum_of a b).steps ≤ a.span + b.span
fresh-le_span a b = let l = div-le_self (a.span + b.span) (common_divisor_of a.divisor b.divisor) in omega arith

pub sum3-bound : (a b : Shape) (c : ℕ) → IsShape a → IsShape b → a.span < 2 ^ 128 → b.span < 2 ^ 128 → cost_of_sum3 a b c ≤ 2 ^ 12 * (a.span + b.span + c + 1)
sum3-bound a b c first second h k =
    let x = div-le_self a.span (common_divisor_of a.divisor b.divisor) in
    let y = div-le_self b.span (common_divisor_of a.divisor b.divisor) in
    let l = sum3_over-bound a.steps b.steps c (first_units a b) (second_units a b)
    (steps-le_units a _ first (common-divides_first a.divisor b.divisor) (zero_common_first a.divisor b.divisor))
    (steps-le_units b _ second (common-divides_second a.divisor b.divisor) (zero_common_second a.divisor b.divisor))
    (omega arith) (omega arith) in
    more _ (first_units a b) (second_units a b) l x y
  where
    more : (x u v : ℕ) → x ≤ 2 ^ 12 * (u + v + c + 1) → u ≤ a.span → v ≤ b.span → x ≤ 2 ^ 12 * (a.span + b.span + c + 1)
    more x u v l p q = omega arith

fresh_sum-bound : (a b : Shape) → IsShape a → IsShape b → a.span < 2 ^ 128 → b.span < 2 ^ 128 → weight_of_fresh_sum a b ≤ 2 ^ 14 * (a.span + b.span + 1)
fresh_sum-bound a b first second h k =
    let l = sum3-bound a b (fresh_sum_of a b).steps first second h k in
    let m = fresh-le_span a b in
    omega arith

-- so much the last fresh sum and the comparison weigh
abbrev at_last : List Shape → ℕ
at_last members = 2 ^ 15 * (spans_of members + 1)

one_more : (queue join sum more rest last : ℕ) → queue ≡ join + rest → sum ≡ join + more → rest ≤ more + last → queue ≤ sum + last
one_more queue join sum more rest last e f h = omega arith

compared-bound : (most : ℕ) (rel : Relation) (members : List Shape) → length members ≤ most → AreShapes members → spans_of members < 2 ^ 128
    → weight_of_compared rel members ≤ cost_of_sum members + at_last members
compared-bound most rel [] few h k = let c = comparison-bound rel 0 0 in omega arith
compared-bound most rel (a ∷ []) few h k = let c = comparison-bound rel a.steps 0 in let s = steps-le_span a h.0 in omega arith
compared-bound most rel (a ∷ b ∷ []) few h k =
    let c = comparison-bound rel a.steps b.steps in
    let s = steps-le_span a h.0 in
    let t = steps-le_span b h.1.0 in
    omega arith
compared-bound most rel (a ∷ b ∷ c ∷ []) few h k =
    let e = compared_of_more rel a b (c ∷ []) (omega arith) in
    let j = fresh_sum-bound a b h.0 h.1.0 (omega arith) (omega arith) in
    let l : weight_of_compared rel (c ∷ fresh_sum_of a b ∷ []) ≤ 11 * (c.steps + (fresh_sum_of a b).steps) + 11 = comparison-bound rel c.steps (fresh_sum_of a b).steps in
    let s = steps-le_span c h.1.1.0 in
    let t = fresh-le_span a b in
    omega arith
compared-bound zero rel (a ∷ b ∷ c ∷ d ∷ rest) few h k = absurd (omega arith)
compared-bound (suc most) rel (a ∷ b ∷ c ∷ d ∷ rest) few h k =
    let more = c ∷ d ∷ rest ++ fresh_sum_of a b ∷ [] in
    let spans = spans-append (c ∷ d ∷ rest) (fresh_sum_of a b) in
    let longer = length-append (c ∷ d ∷ rest) (fresh_sum_of a b ∷ []) in
    let next = compared-bound most rel more (omega arith) (behind (c ∷ d ∷ rest) (fresh_sum_of a b) h.1.1 (IsShape-fresh a b h.0 h.1.0)) (omega arith) in
    let same : at_last more ≡ at_last (a ∷ b ∷ c ∷ d ∷ rest) = omega arith in
    one_more _ (weight_of_fresh_sum a b) _ (cost_of_sum more) (weight_of_compared rel more) _
    (compared_of_more rel a b (c ∷ d ∷ rest) (omega arith)) (sum_of_more a b (c ∷ d ∷ rest) (omega arith)) (rw same at next)
  where
    behind : (members : List Shape) (z : Shape) → AreShapes members → IsShape z → AreShapes (members ++ z ∷ [])
    behind [] z h shape = (shape, tt)
    behind (y ∷ members) z h shape = (h.0, behind members z h.1 shape)

-- A sum of so many members of a model within the limits.

sum-limit : (n : ℕ) (members : List Shape) → 1 ≤ n → n ≤ 2 ^ 25 → length members ≤ n → spans_of members ≤ 2 ^ 61 * n → AreShapes members → cost_of_sum members ≤ 2 ^ 80 * n
sum-limit n members some few l k h =
    let b = sum-bound 25 members h (omega arith) (omega arith) in
    omega arith

compared-limit : (n : ℕ) (rel : Relation) (members : List Shape) → 1 ≤ n → n ≤ 2 ^ 25 → length members ≤ n → spans_of members ≤ 2 ^ 61 * n → AreShapes members → weight_of_compared rel members ≤ 2 ^ 81 * n
compared-limit n rel members some few l k h =
    let b = compared-bound (length members) rel members (omega arith) h (omega arith) in
    let s = sum-limit n members some few l k h in
    omega arith

pub linear-limit : (n : ℕ) (rel : Relation) (members : List Shape) → 1 ≤ n → n ≤ 2 ^ 25 → length members ≤ n → spans_of members ≤ 2 ^ 61 * n → AreShapes members → weight_of_sum rel members ≤ 2 ^ 81 * n
linear-limit n relation.Leq members some few l k h = compared-limit n relation.Leq members some few l k h
linear-limit n relation.Geq members some few l k h = compared-limit n relation.Geq members some few l k h
linear-limit n relation.Eq members some few l k h = let s = sum-limit n members some few l k h in omega arith
linear-limit n relation.Lt members some few l k h = compared-limit n relation.Lt members some few l k h
linear-limit n relation.Gt members some few l k h = compared-limit n relation.Gt members some few l k h
linear-limit n relation.Neq members some few l k h = compared-limit n relation.Neq members some few l k h
