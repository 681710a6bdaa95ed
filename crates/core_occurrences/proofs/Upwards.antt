-- Ids in ascending order, each once.
use Rattle.std.proofs.Common.{◌≡◌, ℕ, zero, suc, ◌+◌, ◌≤◌, ◌<◌, List, [], ◌∷◌, length, get_or, refl, ap, sym, ◌∙◌, arith, ⊎_elim}
use Rattle.std.specs.Prelude.{if◌then◌else◌, ◌==◌, IsPermutation, IsSorted}
use Rattle.std.specs.List.{sum_by}
use Rattle.std.specs.List.Sorted.{IsStrictlyIncreasing}
use Rattle.std.specs.Ordering.{nat_cmp}
use Rattle.std.proofs.lemmas.Bool.{cases_lt}
use Rattle.std.proofs.lemmas.List.Sums.{sum_by-cons}
use Rattle.std.proofs.lemmas.List.Sorted.{sum_by-IsPermutation, IsNonDecreasingBy-from_sort}
use Rattle.index_ring.specs.Lists.{times}
use Rattle.index_ring.proofs.Times.{times-same, times-grows}

-- in whatever order a list stands, it has a number as often
times-sum : (v : ℕ) (xs : List ℕ) → times v xs ≡ sum_by (λ w. if w == v then 1 else 0) xs
times-sum v [] = refl
times-sum v (x ∷ xs) = omega (arith, times-sum v xs, sum_by-cons (λ w. if w == v then 1 else 0) x xs)

times-permuted : (v : ℕ) (xs ys : List ℕ) → IsPermutation xs ys → times v ys ≡ times v xs
times-permuted v xs ys moved =
    times-sum v ys ∙ sum_by-IsPermutation (λ w. if w == v then 1 else 0) xs ys moved ∙ sym (times-sum v xs)

-- a number that stands at two places, one behind the other, stands there twice
twice : (ys : List ℕ) (k : ℕ) → k + 1 < length ys → get_or ys k 0 ≡ get_or ys (k + 1) 0 → 2 ≤ times (get_or ys k 0) ys
twice [] k low e = absurd (omega (arith, low))
twice (y ∷ []) k low e = absurd (omega (arith, low))
twice (y ∷ z ∷ ys) zero low e = omega (arith, times-same y y (z ∷ ys) refl, times-same y z ys (sym e))
twice (y ∷ z ∷ ys) (suc k) low e =
    let next : suc k + 1 ≡ suc (k + 1) = omega arith in
    omega (arith, twice (z ∷ ys) k (omega (arith, low)) (e ∙ ap (λ (n : ℕ). get_or (y ∷ z ∷ ys) n 0) next), times-grows (get_or (z ∷ ys) k 0) y (z ∷ ys))

-- what has each number once at most rises where it is sorted
pub rises : (xs ys : List ℕ) → IsPermutation xs ys → IsSorted nat_cmp ys → ((v : ℕ) → times v xs ≤ 1) → IsStrictlyIncreasing ys
rises xs ys moved sorted once k low =
    let up : get_or ys k 0 ≤ get_or ys (k + 1) 0 = IsNonDecreasingBy-from_sort (λ n. n) ys sorted k (k + 1) 0 (omega arith) low in
    ⊎_elim (λ below. below)
    (λ above. absurd (omega (arith, twice ys k low (omega (arith, up, above)), times-permuted (get_or ys k 0) xs ys moved, once (get_or ys k 0))))
    (cases_lt (get_or ys k 0) (get_or ys (k + 1) 0))
