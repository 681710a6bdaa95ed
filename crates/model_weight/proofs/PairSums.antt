-- The weights of all pairs of numbers of steps: in whatever order the numbers stand, and where they ascend.
use Rattle.std.proofs.Common.{◌≡◌, ℕ, zero, suc, ◌+◌, ◌*◌, ◌-◌, ◌/◌, ◌≤◌, ◌<◌, List, [], ◌∷◌, length, get_or, drop, min, refl, sym, ◌∙◌, arith}
use Rattle.std.specs.Prelude.{IsPermutation, IsSorted}
use Rattle.std.specs.List.{sum_by}
use Rattle.std.specs.Ordering.{nat_cmp}
use Rattle.std.proofs.lemmas.List.{drop_more, length-drop}
use Rattle.std.proofs.lemmas.List.Sums.{sum_by-cons}
use Rattle.std.proofs.lemmas.List.Sorted.{sum_by-IsPermutation, IsNonDecreasingBy-from_sort}
use Rattle.core_cost.specs.Comparisons.{cost_of_eq}
use Rattle.core_cost.proofs.SaturatedSums.{saturated-product}
use Rattle.model_weight.specs.Pairs.{weight_of_pairs_with, weight_of_pairs, count_of_pairs, weight_of_reified_all_different, weight_as_lesser, weight_as_greater, weights_as_greater, weight_of_ascending}

-- Sums over a list are the same in each order.

abbrev total : (ℕ → ℕ) → List ℕ → ℕ
total f [] = 0
total f (x ∷ xs) = f x + total f xs

total-is : (f : ℕ → ℕ) (xs : List ℕ) → total f xs ≡ sum_by f xs
total-is f [] = refl
total-is f (x ∷ xs) = omega (arith, total-is f xs, sum_by-cons f x xs)

total-permuted : (f : ℕ → ℕ) (xs ys : List ℕ) → IsPermutation xs ys → total f xs ≡ total f ys
total-permuted f xs ys h = total-is f xs ∙ (sym (sum_by-IsPermutation f xs ys h) ∙ sym (total-is f ys))

total-same : (f g : ℕ → ℕ) → ((x : ℕ) → f x ≡ g x) → (xs : List ℕ) → total f xs ≡ total g xs
total-same f g e [] = refl
total-same f g e (x ∷ xs) = omega (arith, e x, total-same f g e xs)

total-added : (f g : ℕ → ℕ) (xs : List ℕ) → total (λ x. f x + g x) xs ≡ total f xs + total g xs
total-added f g [] = refl
total-added f g (x ∷ xs) = omega (arith, total-added f g xs)

-- Twice the pairs, and each number with itself, is each number with each.

abbrev pair : ℕ → ℕ → ℕ
pair n m = 1 + cost_of_eq n m

pair-sym : (n m : ℕ) → pair n m ≡ pair m n
pair-sym n m = omega arith

with-is : (n : ℕ) (ms : List ℕ) → weight_of_pairs_with n ms ≡ total (pair n) ms
with-is n [] = refl
with-is n (m ∷ ms) = omega (arith, with-is n ms)

abbrev each_with_each : List ℕ → List ℕ → ℕ
each_with_each xs ys = total (λ x. total (pair x) ys) xs

pairs-twice : (xs : List ℕ) → 2 * weight_of_pairs xs + total (λ x. pair x x) xs ≡ each_with_each xs xs
pairs-twice [] = refl
pairs-twice (a ∷ xs) =
    let added = total-added (λ x. pair x a) (λ x. total (pair x) xs) xs in
    let turned = total-same (λ x. pair x a) (pair a) (λ x. pair-sym x a) xs in
    omega (arith, added, turned, with-is a xs, pairs-twice xs)

each_with_each-permuted : (xs ys : List ℕ) → IsPermutation xs ys → each_with_each xs xs ≡ each_with_each ys ys
each_with_each-permuted xs ys h =
    total-same (λ x. total (pair x) xs) (λ x. total (pair x) ys) (λ x. total-permuted (pair x) xs ys h) xs
    ∙ total-permuted (λ x. total (pair x) ys) xs ys h

pub pairs-permuted : (xs ys : List ℕ) → IsPermutation xs ys → weight_of_pairs xs ≡ weight_of_pairs ys
pairs-permuted xs ys h =
    omega (arith, pairs-twice xs, pairs-twice ys, each_with_each-permuted xs ys h, total-permuted (λ x. pair x x) xs ys h)

-- Ascending numbers.

with-ascending : (n : ℕ) (ms : List ℕ) → ((k : ℕ) → k < length ms → n ≤ get_or ms k 0) → weight_of_pairs_with n ms ≡ length ms * weight_as_lesser n + weights_as_greater ms
with-ascending n [] h = omega arith
with-ascending n (m ∷ ms) h =
    let least : n ≤ m = h 0 (omega arith) in
    let one : 1 + cost_of_eq n m ≡ weight_as_lesser n + weight_as_greater m = omega arith in
    next (weight_as_lesser n) (length ms) _ _ _ _ one (with-ascending n ms (λ k below. h (suc k) (omega arith)))
  where
    next : (w k e g rest more : ℕ) → e ≡ w + g → rest ≡ k * w + more → e + rest ≡ suc k * w + (g + more)
    next w k e g rest more one h = omega arith

pairs-ascending : (xs : List ℕ) → ((i j : ℕ) → i ≤ j → j < length xs → get_or xs i 0 ≤ get_or xs j 0) → weight_of_pairs xs ≡ weight_of_ascending xs
pairs-ascending [] h = refl
pairs-ascending (n ∷ ns) h =
    omega (arith, with-ascending n ns (λ k below. h 0 (suc k) (omega arith) (omega arith)), pairs-ascending ns (λ i j le below. h (suc i) (suc j) (omega arith) (omega arith)))

pub pairs-sorted : (xs ys : List ℕ) → IsPermutation xs ys → IsSorted nat_cmp ys → weight_of_pairs xs ≡ weight_of_ascending ys
pairs-sorted xs ys h s =
    let up = IsNonDecreasingBy-from_sort (λ x. x) ys s in
    pairs-permuted xs ys h ∙ pairs-ascending ys (λ i j le below. up i j 0 le below)

pub reified-is : (ns : List ℕ) → weight_of_reified_all_different ns ≡ weight_of_pairs ns + (3 * count_of_pairs ns + 1)
reified-is ns = refl

-- How many pairs there are.

one_more : (k c : ℕ) → 2 * c + k ≡ k * k → 2 * (k + c) + suc k ≡ suc k * suc k
one_more k c h = omega (arith, h)

pub count-twice : (ns : List ℕ) → 2 * count_of_pairs ns + length ns ≡ length ns * length ns
count-twice [] = refl
count-twice (n ∷ ns) = one_more (length ns) (count_of_pairs ns) (count-twice ns)

half : (k c : ℕ) → 2 * c + k ≡ k * k → c ≡ k * (k - 1) / 2
half zero c h = omega (arith, h)
half (suc k) c h = let e : suc k - 1 ≡ k = omega arith in rw e (omega (arith, h))

pub count-is : (ns : List ℕ) → count_of_pairs ns ≡ length ns * (length ns - 1) / 2
count-is ns = half (length ns) (count_of_pairs ns) (count-twice ns)

-- A number of times a saturated number.

pub times-saturated : (k x m : ℕ) → 1 ≤ m → k ≤ m → min (k * min x m) m ≡ min (k * x) m
times-saturated zero x m h l = omega arith
times-saturated (suc k) zero m h l = let e : min 0 m ≡ 0 = omega arith in rw e refl
times-saturated (suc k) (suc x) m h l =
    let e : min (suc k) m ≡ suc k = omega arith in
    rw e at (saturated-product (suc k) (suc x) m (omega arith) (omega arith) h)

-- One number more, from the end.

pub ascending-more : (ns : List ℕ) (i d : ℕ) → i < length ns
    → weight_of_ascending (drop i ns) ≡ (length ns - 1 - i) * weight_as_lesser (get_or ns i d) + weights_as_greater (drop (i + 1) ns) + weight_of_ascending (drop (i + 1) ns)
ascending-more ns i d h =
    let e : length (drop (i + 1) ns) ≡ length ns - 1 - i = omega (arith, length-drop (i + 1) ns) in
    rw (drop_more ns i d h, e) refl

pub greater-more : (ns : List ℕ) (i d : ℕ) → i < length ns → weights_as_greater (drop i ns) ≡ weight_as_greater (get_or ns i d) + weights_as_greater (drop (i + 1) ns)
greater-more ns i d h = rw (drop_more ns i d h) refl
