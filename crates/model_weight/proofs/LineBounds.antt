-- What a statement within the limits weighs at most, by the members of its lists.
use Rattle.std.proofs.Common.{◌≡◌, ℕ, zero, suc, ◌+◌, ◌*◌, ◌^◌, ◌<◌, ◌≤◌, List, [], ◌∷◌, length, inl, inr, refl, ap, arith}
use Rattle.std.specs.List.{zip}
use Rattle.std.proofs.Math.Nat.{mul-le-mul}
use Rattle.std.proofs.lemmas.Bool.{cases_lt, lt-leb, le-leb}
use Rattle.core_cost.specs.ListForms.{cost_of_parity}
use Rattle.core_cost.specs.Comparisons.{cost_of_lex}
use Rattle.core_cost.specs.Arithmetic.{cost_of_members, cost_of_max, cost_of_all_diff}
use Rattle.core_cost.specs.Network.{half_up, half_down}
use Rattle.core_cost.specs.Counts.{cost_of_half, cost_of_count}
use Rattle.core_cost.proofs.Monotone.{ladder_lem}
use Rattle.core_cost.proofs.NetworkBounds.{sum3_over-bound}
use Rattle.core_cost.proofs.CountLaws.{count_of_few, count_of_halves}
use Rattle.model_meaning.specs.declared.what.BoolTerm.{BoolTerm}
use Rattle.model_meaning.specs.declared.what.IntTerm.{IntTerm}
use Rattle.model_meaning.specs.declared.statement.Operator.{Operator}
use Rattle.model_meaning.specs.declared.statement.Operator.TheVariants as operator
use Rattle.model_meaning.specs.declared.statement.Relation.{Relation}
use Rattle.model_meaning.specs.declared.statement.Relation.TheVariants as relation
use Rattle.model_meaning.specs.declared.model.Decl.{Decl}
use Rattle.model_meaning.specs.Limits.{DeclsInLimit}
use Rattle.model_weight.specs.Shapes.{steps_in, all_steps}
use Rattle.model_weight.specs.Comparisons.{weight_of_fresh_count, weight_of_count}
use Rattle.model_weight.specs.Pairs.{weight_of_pairs_with, weight_of_pairs, count_of_pairs, weight_of_reified_all_different}
use Rattle.model_weight.specs.Statements.{weight_of_array, weight_of_reified_array, truth_steps}
use Rattle.model_weight.proofs.Spans.{term-bound}
use Rattle.model_weight.proofs.PairSums.{count-twice, reified-is}
use Rattle.model_weight.proofs.LinearBounds.{comparison-bound}

pub steps_in-bound : (ds : List Decl) (i : IntTerm) → DeclsInLimit ds → steps_in ds i ≤ 2 ^ 31
steps_in-bound ds i h = term-bound ds i h

-- Lists of Booleans.

parity-bound : (k : ℕ) → cost_of_parity k ≤ 13 * k
parity-bound zero = omega arith
parity-bound (suc zero) = omega arith
parity-bound (suc (suc zero)) = omega arith
parity-bound (suc (suc (suc zero))) = omega arith
parity-bound (suc (suc (suc (suc k)))) = omega (arith, parity-bound (suc (suc (suc k))))

pub array-bound : (op : Operator) (k : ℕ) → weight_of_array op k ≤ 2 ^ 5 * (k + 1)
array-bound operator.Or k = omega arith
array-bound operator.And k = omega arith
array-bound operator.Xor k = omega (arith, parity-bound k)
array-bound operator.Iff k = omega arith

pub reified_array-bound : (op : Operator) (k : ℕ) → weight_of_reified_array op k ≤ 2 ^ 5 * (k + 1)
reified_array-bound operator.Or k = omega arith
reified_array-bound operator.And k = omega arith
reified_array-bound operator.Xor k = omega (arith, parity-bound (k + 1))
reified_array-bound operator.Iff k = omega arith

-- Counts.

half-bound : (h x : ℕ) → x ≤ 2 ^ 15 * (h * h + 1) + 2 ^ 12 * h → cost_of_half h x ≤ 2 ^ 15 * (h * h + 1) + 2 ^ 12 * h + h
half-bound h x l =
    elim (cases_lt h 2) [ inl few ↦ rw (lt-leb 2 h few) (omega arith) | inr many ↦ rw (le-leb 2 h many) (omega arith) ]

halves-sum : (u d k a b s c : ℕ) → u + d ≡ k → 1 ≤ u → 1 ≤ d → a ≤ 2 ^ 15 * (u * u + 1) + 2 ^ 12 * u + u → b ≤ 2 ^ 15 * (d * d + 1) + 2 ^ 12 * d + d
    → s ≤ 2 ^ 12 * (u + d + c + 1) → a + b + s ≤ 2 ^ 15 * (k * k + 1) + 2 ^ 12 * c
halves-sum zero d k a b s c e x y p q r = absurd (omega arith)
halves-sum (suc u) zero k a b s c e x y p q r = absurd (omega arith)
halves-sum (suc u) (suc d) k a b s c e x y p q r =
    let square : (suc u + suc d) * (suc u + suc d) ≡ k * k = ap (λ w. w * w) e in
    omega arith

few-count : (k c : ℕ) → k < 2 → cost_of_count k c ≤ 2 ^ 15 * (k * k + 1) + 2 ^ 12 * c
few-count k c few =
    let e = count_of_few k c few in
    let l = sum3_over-bound k 0 c k 0 (omega arith) (omega arith) (omega arith) (omega arith) in
    more k _ few l e
  where
    more : (k x : ℕ) → k < 2 → x ≤ 2 ^ 12 * (k + 0 + c + 1) → cost_of_count k c ≡ x → cost_of_count k c ≤ 2 ^ 15 * (k * k + 1) + 2 ^ 12 * c
    more zero x few l e = omega arith
    more (suc zero) x few l e = omega arith
    more (suc (suc k)) x few l e = absurd (omega arith)

count-within : (most k c : ℕ) → k ≤ most → most ≤ 2 ^ 64 → cost_of_count k c ≤ 2 ^ 15 * (k * k + 1) + 2 ^ 12 * c
count-within zero k c h limit = few-count k c (omega arith)
count-within (suc most) k c h limit =
    elim (cases_lt k 2) [
      | inl few ↦ few-count k c few
      | inr many ↦
          let e = count_of_halves k c many in
          let up = half-bound (half_up k) _ (count-within most (half_up k) (half_up k) (omega arith) (omega arith)) in
          let down = half-bound (half_down k) _ (count-within most (half_down k) (half_down k) (omega arith) (omega arith)) in
          let sum = sum3_over-bound (half_up k) (half_down k) c (half_up k) (half_down k) (omega arith) (omega arith) (omega arith) (omega arith) in
          rw e (halves-sum (half_up k) (half_down k) k _ _ _ c (omega arith) (omega arith) (omega arith) up down sum)
    ]

square-limit : (k : ℕ) → k ≤ 2 ^ 24 → k * k ≤ 2 ^ 24 * k
square-limit k h = mul-le-mul h (omega arith)

count-limit : (k c : ℕ) → k ≤ 2 ^ 24 → c ≤ 2 ^ 31 → cost_of_count k c ≤ 2 ^ 44 * (k + 1)
count-limit k c h l = sums _ (k * k) (count-within k k c (omega arith) (omega arith)) (square-limit k h)
  where
    sums : (x s : ℕ) → x ≤ 2 ^ 15 * (s + 1) + 2 ^ 12 * c → s ≤ 2 ^ 24 * k → x ≤ 2 ^ 44 * (k + 1)
    sums x s p q = omega arith

fresh_count-limit : (rel : Relation) (k c : ℕ) → k ≤ 2 ^ 24 → c ≤ 2 ^ 31 → weight_of_fresh_count rel k c ≤ 2 ^ 46 * (k + 1)
fresh_count-limit rel k c h l = omega (arith, count-limit k k h (omega arith), comparison-bound rel k c)

pub weight_of_count-limit : (rel : Relation) (k c : ℕ) → k ≤ 2 ^ 24 → c ≤ 2 ^ 31 → weight_of_count rel k c ≤ 2 ^ 46 * (k + 1)
weight_of_count-limit relation.Leq k c h l = fresh_count-limit relation.Leq k c h l
weight_of_count-limit relation.Geq k c h l = fresh_count-limit relation.Geq k c h l
weight_of_count-limit relation.Eq k c h l = omega (arith, count-limit k c h l)
weight_of_count-limit relation.Lt k c h l = fresh_count-limit relation.Lt k c h l
weight_of_count-limit relation.Gt k c h l = fresh_count-limit relation.Gt k c h l
weight_of_count-limit relation.Neq k c h l = fresh_count-limit relation.Neq k c h l

-- Lists of integers.

module _ (ds : List Decl) (limit : DeclsInLimit ds) where
  length-steps : (is : List IntTerm) → length (all_steps ds is) ≡ length is
  length-steps [] = refl
  length-steps (i ∷ is) = ap suc (length-steps is)

  members-limit : (is : List IntTerm) → cost_of_members (all_steps ds is) ≤ 2 ^ 34 * length is
  members-limit [] = omega arith
  members-limit (i ∷ is) = omega (arith, ladder_lem (steps_in ds i), steps_in-bound ds i limit, members-limit is)

  pub max-limit : (is : List IntTerm) (c : ℕ) → c ≤ 2 ^ 31 → cost_of_max (all_steps ds is) c ≤ 2 ^ 36 * (length is + 1)
  max-limit is c h =
      let e = length-steps is in
      let l : (c + 1) * (length is + 1) ≤ 2 ^ 32 * (length is + 1) = mul-le-mul (omega arith) (omega arith) in
      sums _ _ _ (members-limit is) (rw e l) (omega (arith, ladder_lem c))
    where
      sums : (a b d : ℕ) → a ≤ 2 ^ 34 * length is → b ≤ 2 ^ 32 * (length is + 1) → d ≤ 2 ^ 32 → a + b + d ≤ 2 ^ 36 * (length is + 1)
      sums a b d p q r = omega arith

  pub all_diff-limit : (is : List IntTerm) → cost_of_all_diff (all_steps ds is) ≤ 2 ^ 37 * length is
  all_diff-limit [] = omega arith
  all_diff-limit (i ∷ is) = omega (arith, ladder_lem (steps_in ds i), steps_in-bound ds i limit, all_diff-limit is)

  pairs_with-limit : (n : ℕ) (is : List IntTerm) → n ≤ 2 ^ 31 → weight_of_pairs_with n (all_steps ds is) ≤ 2 ^ 37 * length is
  pairs_with-limit n [] h = omega arith
  pairs_with-limit n (i ∷ is) h = omega (arith, ladder_lem n, ladder_lem (steps_in ds i), steps_in-bound ds i limit, pairs_with-limit n is h)

  pairs-limit : (is : List IntTerm) → weight_of_pairs (all_steps ds is) ≤ 2 ^ 37 * (length is * length is)
  pairs-limit [] = omega arith
  pairs-limit (i ∷ is) = squares (length is) _ _ (pairs_with-limit (steps_in ds i) is (steps_in-bound ds i limit)) (pairs-limit is)
    where
      squares : (k x y : ℕ) → x ≤ 2 ^ 37 * k → y ≤ 2 ^ 37 * (k * k) → x + y ≤ 2 ^ 37 * (suc k * suc k)
      squares k x y p q = omega arith

  pub reified-limit : (is : List IntTerm) → length is ≤ 2 ^ 24 → weight_of_reified_all_different (all_steps ds is) ≤ 2 ^ 63 * (length is + 1)
  reified-limit is h =
      let ns = all_steps ds is in
      let e = length-steps is in
      let count : 2 * count_of_pairs ns + length is ≡ length is * length is = rw e at (count-twice ns) in
      sums (length is) (length is * length is) _ (count_of_pairs ns) _ (reified-is ns) (pairs-limit is) (omega arith) (square-limit (length is) h)
    where
      sums : (k s x c w : ℕ) → w ≡ x + (3 * c + 1) → x ≤ 2 ^ 37 * s → c ≤ s → s ≤ 2 ^ 24 * k → w ≤ 2 ^ 63 * (k + 1)
      sums k s x c w e p q r = omega arith

-- Lists in order.

abbrev AreSmall : List (ℕ × ℕ) → Type 0
AreSmall [] = Unit {0}
AreSmall (p ∷ ps) = (p.0 ≤ 2 ^ 31) × ((p.1 ≤ 2 ^ 31) × AreSmall ps)

lex-bound : (ps : List (ℕ × ℕ)) → AreSmall ps → cost_of_lex ps ≤ 2 ^ 37 * length ps + 1
lex-bound [] h = omega arith
lex-bound (p ∷ []) h = omega (arith, ladder_lem p.0, ladder_lem p.1, h.0, h.1.0)
lex-bound (p ∷ q ∷ ps) h = omega (arith, ladder_lem p.0, ladder_lem p.1, h.0, h.1.0, lex-bound (q ∷ ps) h.1.1)

AreSmall-steps : (ds : List Decl) (is js : List IntTerm) → DeclsInLimit ds → AreSmall (zip (all_steps ds is) (all_steps ds js))
AreSmall-steps ds [] js h = tt
AreSmall-steps ds (i ∷ is) [] h = tt
AreSmall-steps ds (i ∷ is) (j ∷ js) h = (steps_in-bound ds i h, (steps_in-bound ds j h, AreSmall-steps ds is js h))

length-steps_zip : (ds : List Decl) (is js : List IntTerm) → length (zip (all_steps ds is) (all_steps ds js)) ≤ length is
length-steps_zip ds [] js = omega arith
length-steps_zip ds (i ∷ is) [] = omega arith
length-steps_zip ds (i ∷ is) (j ∷ js) = omega (arith, length-steps_zip ds is js)

pub numbers_order-limit : (ds : List Decl) (is js : List IntTerm) → DeclsInLimit ds → cost_of_lex (zip (all_steps ds is) (all_steps ds js)) ≤ 2 ^ 37 * (length is + 1)
numbers_order-limit ds is js h = omega (arith, lex-bound _ (AreSmall-steps ds is js h), length-steps_zip ds is js)

AreSmall-truths : (xs ys : List BoolTerm) → AreSmall (zip (truth_steps xs) (truth_steps ys))
AreSmall-truths [] ys = tt
AreSmall-truths (x ∷ xs) [] = tt
AreSmall-truths (x ∷ xs) (y ∷ ys) = (omega arith, (omega arith, AreSmall-truths xs ys))

length-truths_zip : (xs ys : List BoolTerm) → length (zip (truth_steps xs) (truth_steps ys)) ≤ length xs
length-truths_zip [] ys = omega arith
length-truths_zip (x ∷ xs) [] = omega arith
length-truths_zip (x ∷ xs) (y ∷ ys) = omega (arith, length-truths_zip xs ys)

pub truths_order-limit : (xs ys : List BoolTerm) → cost_of_lex (zip (truth_steps xs) (truth_steps ys)) ≤ 2 ^ 37 * (length xs + 1)
truths_order-limit xs ys = omega (arith, lex-bound _ (AreSmall-truths xs ys), length-truths_zip xs ys)
