-- A sum costs at most a multiple of its spans for each round of fresh sums, of which each halves the number of members.
use Rattle.std.proofs.Common.{◌≡◌, ℕ, ◌+◌, ◌*◌, ◌/◌, ◌^◌, ◌<◌, ◌≤◌, List, [], ◌∷◌, ◌++◌, length, zero, suc, sym, ap, subst, append_assoc, arith, inl, inr}
use Rattle.std.proofs.Math.Nat.{mul-le-mul, pow-suc, div-le_self}
use Rattle.std.proofs.lemmas.Bool.{cases_lt}
use Rattle.std.proofs.lemmas.List.{append-nil, length_push}
use Rattle.core_cost.specs.declared.shape.Shape.{Shape}
use Rattle.core_cost.specs.Divisor.{common_divisor_of}
use Rattle.core_cost.specs.Sums.{first_units, second_units, cost_of_sum3, constant, fresh_sum_of, cost_of_sum, spans_of}
use Rattle.core_cost.specs.Relations.{IsShape, AreShapes, FitsInMemory}
use Rattle.core_cost.proofs.NetworkBounds.{sum3_over-bound}
use Rattle.core_cost.proofs.ShapeLaws.{steps-le_units, common-divides_first, common-divides_second, zero_common_first, zero_common_second, IsShape-constant, IsShape-fresh}
use Rattle.core_cost.proofs.SumLaws.{sum_of_more, spans-append}

sum3-bound : (a b : Shape) (c : ℕ) → IsShape a → IsShape b → a.span < 2 ^ 128 → b.span < 2 ^ 128 → cost_of_sum3 a b c ≤ 2 ^ 12 * (a.span + b.span + c + 1)
sum3-bound a b c first second h k =
    let x = div-le_self a.span (common_divisor_of a.divisor b.divisor) in
    let y = div-le_self b.span (common_divisor_of a.divisor b.divisor) in
    let l = sum3_over-bound a.steps b.steps c (first_units a b) (second_units a b)
    (steps-le_units a _ first (common-divides_first a.divisor b.divisor) (zero_common_first a.divisor b.divisor))
    (steps-le_units b _ second (common-divides_second a.divisor b.divisor) (zero_common_second a.divisor b.divisor))
    (omega arith) (omega arith) in
    more _ (first_units a b) (second_units a b) l x y
  where
    more : (x u v : ℕ) → x ≤ 2 ^ 12 * (u + v + c + 1) → u ≤ a.span → v ≤ b.span → x ≤ 2 ^ 12 * (a.span + b.span + c + 1)
    more x u v l p q = omega arith

steps-le_span : (a : Shape) → IsShape a → a.steps ≤ a.span
steps-le_span a shape =
    elim (cases_lt 0 a.divisor) [
      | inl some ↦ let l : a.steps * 1 ≤ a.steps * a.divisor = mul-le-mul (omega arith) some in let w = shape.weights in omega arith
      | inr none ↦ let e = (shape.none (omega arith)).0 in omega arith
    ]

fresh-le_span : (a b : Shape) → (fresh_sum_of a b).steps ≤ a.span + b.span
fresh-le_span a b = let l = div-le_self (a.span + b.span) (common_divisor_of a.divisor b.divisor) in omega arith

AreShapes-append : (members : List Shape) (a : Shape) → AreShapes members → IsShape a → AreShapes (members ++ a ∷ [])
AreShapes-append [] a h shape = (shape, tt)
AreShapes-append (b ∷ members) a h shape = (h.0, AreShapes-append members a h.1 shape)

-- ---- one fresh sum, and the last sum

merge-bound : (a b : Shape) → IsShape a → IsShape b → a.span < 2 ^ 128 → b.span < 2 ^ 128
    → (fresh_sum_of a b).steps + cost_of_sum3 a b (fresh_sum_of a b).steps ≤ 2 ^ 14 * (a.span + b.span + 1)
merge-bound a b first second h k =
    let l = sum3-bound a b (fresh_sum_of a b).steps first second h k in
    let m = fresh-le_span a b in
    omega arith

few-bound : (members : List Shape) → AreShapes members → spans_of members < 2 ^ 128 → length members ≤ 3
    → cost_of_sum members ≤ 2 ^ 14 * (spans_of members + 1)
unfolding cost_of_sum
few-bound [] h k few =
    let l = sum3-bound constant constant 0 IsShape-constant IsShape-constant (omega arith) (omega arith) in omega arith
few-bound (a ∷ []) h k few = let l = sum3-bound a constant 0 h.0 IsShape-constant (omega arith) (omega arith) in omega arith
few-bound (a ∷ b ∷ []) h k few =
    let l = sum3-bound a constant b.steps h.0 IsShape-constant (omega arith) (omega arith) in
    let m = steps-le_span b h.1.0 in
    omega arith
few-bound (a ∷ b ∷ c ∷ []) h k few =
    let l = sum3-bound a b c.steps h.0 h.1.0 (omega arith) (omega arith) in
    let m = steps-le_span c h.1.1.0 in
    omega arith
few-bound (a ∷ b ∷ c ∷ d ∷ rest) h k few = absurd (omega arith)

-- ---- rounds

-- a list whose fresh sums need r rounds more
abbrev CostsRounds : ℕ → List Shape → Type 0
CostsRounds r members = cost_of_sum members ≤ 2 ^ 14 * (r * spans_of members + spans_of members + length members + 1)

few-within : (r s n cost : ℕ) → cost ≤ 2 ^ 14 * (s + 1) → cost ≤ 2 ^ 14 * (r * s + s + n + 1)
few-within r s n cost h = within (r * s) h
  where
    within : (p : ℕ) → cost ≤ 2 ^ 14 * (s + 1) → cost ≤ 2 ^ 14 * (p + s + n + 1)
    within p h = omega arith

-- one round: the members that are left of it, and the fresh sums that it has made
module _ (r : ℕ) (next : (members : List Shape) → AreShapes members → spans_of members < 2 ^ 128 → length members ≤ 2 ^ r → CostsRounds r members) where
  abbrev CostsRound : List Shape → List Shape → Type 0
  CostsRound left made =
      cost_of_sum (left ++ made) ≤ 2 ^ 14 * (spans_of left + (r * spans_of (left ++ made) + spans_of (left ++ made)) + length (left ++ made) + 1)

  round : (left made : List Shape) → AreShapes (left ++ made) → spans_of (left ++ made) < 2 ^ 128 → (length left + 1) / 2 + length made ≤ 2 ^ r → CostsRound left made
  round [] made h k few = let l = next made h k (omega arith) in omega arith
  round (a ∷ []) made h k few =
      let l = next (a ∷ made) h k (omega arith) in
      more _ (r * spans_of (a ∷ made) + spans_of (a ∷ made)) (length made) l
    where
      more : (cost s n : ℕ) → cost ≤ 2 ^ 14 * (s + suc n + 1) → cost ≤ 2 ^ 14 * (a.span + 0 + s + suc n + 1)
      more cost s n l = omega arith
  round (a ∷ b ∷ left) made h k few =
      elim (cases_lt (length (left ++ made)) 2) [
        | inl last ↦
            few-in_round _ (spans_of left) (r * spans_of (a ∷ b ∷ left ++ made)) (spans_of (left ++ made)) (length (left ++ made))
            (few-bound (a ∷ b ∷ left ++ made) h k (omega arith))
        | inr more ↦
            let joined : left ++ made ++ fresh_sum_of a b ∷ [] ≡ left ++ (made ++ fresh_sum_of a b ∷ []) = append_assoc left made (fresh_sum_of a b ∷ []) in
            let spans = spans-append (left ++ made) (fresh_sum_of a b) in
            let longer = length_push (left ++ made) (fresh_sum_of a b) in
            let same : spans_of (left ++ made ++ fresh_sum_of a b ∷ []) ≡ spans_of (a ∷ b ∷ left ++ made) = omega arith in
            let shapes = AreShapes-append (left ++ made) (fresh_sum_of a b) h.1.1 (IsShape-fresh a b h.0 h.1.0) in
            let rest : CostsRound left (made ++ fresh_sum_of a b ∷ []) = round left (made ++ fresh_sum_of a b ∷ [])
            (subst AreShapes joined shapes) (subst (λ xs. spans_of xs < 2 ^ 128) joined (omega arith))
            (omega (arith, length_push made (fresh_sum_of a b))) in
            merged _ _ _ (r * spans_of (left ++ made ++ fresh_sum_of a b ∷ []) + spans_of (left ++ made ++ fresh_sum_of a b ∷ [])) (r * spans_of (a ∷ b ∷ left ++ made) + spans_of (a ∷ b ∷ left ++ made)) (length (left ++ made))
            (sum_of_more a b (left ++ made) more) (merge-bound a b h.0 h.1.0 (omega arith) (omega arith))
            (subst (λ xs. cost_of_sum xs ≤ 2 ^ 14 * (spans_of left + (r * spans_of xs + spans_of xs) + length xs + 1)) (sym joined) rest)
            (ap (λ w. r * w + w) same) longer
      ]
    where
      few-in_round : (cost s p t n : ℕ) → cost ≤ 2 ^ 14 * (a.span + (b.span + t) + 1)
          → cost ≤ 2 ^ 14 * (a.span + (b.span + s) + (p + (a.span + (b.span + t))) + suc (suc n) + 1)
      few-in_round cost s p t n h = omega arith

      merged : (cost here rest p q n : ℕ) → cost ≡ here + rest → here ≤ 2 ^ 14 * (a.span + b.span + 1)
          → rest ≤ 2 ^ 14 * (spans_of left + p + length (left ++ made ++ fresh_sum_of a b ∷ []) + 1) → p ≡ q
          → length (left ++ made ++ fresh_sum_of a b ∷ []) ≡ n + 1
          → cost ≤ 2 ^ 14 * (a.span + (b.span + spans_of left) + q + suc (suc n) + 1)
      merged cost here rest p q n e h k same l = omega arith

pub rounds-bound : (r : ℕ) (members : List Shape) → AreShapes members → spans_of members < 2 ^ 128 → length members ≤ 2 ^ r → CostsRounds r members
rounds-bound zero members h k few = few-within 0 (spans_of members) (length members) _ (few-bound members h k (omega arith))
rounds-bound (suc r) members h k few =
    let double = pow-suc 2 r in
    let l = round r (rounds-bound r) members [] (subst AreShapes (sym (append-nil members)) h) (subst (λ xs. spans_of xs < 2 ^ 128) (sym (append-nil members)) k) (omega arith) in
    let m : cost_of_sum members ≤ 2 ^ 14 * (spans_of members + (r * spans_of members + spans_of members) + length members + 1) =
    subst (λ xs. cost_of_sum xs ≤ 2 ^ 14 * (spans_of members + (r * spans_of xs + spans_of xs) + length xs + 1)) (append-nil members) l in
    let e : suc r * spans_of members ≡ r * spans_of members + spans_of members = omega arith in
    rw e (omega arith)

pub sum-bound : (r : ℕ) (members : List Shape) → AreShapes members → spans_of members < 2 ^ 128 → length members ≤ 2 ^ r
    → cost_of_sum members ≤ 2 ^ 14 * ((r + 1) * spans_of members + length members + 1)
sum-bound r members h k few =
    let e : (r + 1) * spans_of members ≡ r * spans_of members + spans_of members = omega arith in
    rw e (rounds-bound r members h k few)

-- the members fit in memory, and their spans are those of integers within the limits
pub sum-fits : (members : List Shape) → AreShapes members → FitsInMemory (length members) → spans_of members < 2 ^ 108 → cost_of_sum members < 2 ^ 128
sum-fits members h few small = let l = rounds-bound 60 members h (omega arith) (omega arith) in omega arith
