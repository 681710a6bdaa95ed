-- Costs of what fits in memory fit 128 bits; a network costs at most a multiple of its atoms and depths.
use Rattle.std.proofs.Common.{◌≡◌, ℕ, ◌+◌, ◌*◌, ◌^◌, ◌<◌, ◌≤◌, Bool, true, false, List, [], ◌∷◌, length, zero, suc, ap, arith, inl, inr}
use Rattle.std.proofs.Math.Nat.{mul-le-mul}
use Rattle.std.proofs.lemmas.Nat.{mul-le}
use Rattle.std.proofs.lemmas.Bool.{le-leb, lt-leb, cases_lt}
use Rattle.core_cost.specs.ListForms.{cost_of_parity, cost_of_amo}
use Rattle.core_cost.specs.Comparisons.{cost_of_ladder, cost_of_leq, cost_of_eq, cost_of_lex}
use Rattle.core_cost.specs.Arithmetic.{cost_of_members, cost_of_max, cost_of_all_diff, pairs_of_values, cost_of_prod, cost_of_div_mod}
use Rattle.core_cost.specs.Network.{half_up, half_down, has_network, cost_of_table, cheaper, cost_of_network, cost_of_sum3_over}
use Rattle.core_cost.specs.Counts.{cost_of_half, count_within, cost_of_count}
use Rattle.core_cost.specs.Relations.{FitsInMemory, AllFitInMemory, PairsFitInMemory}
use Rattle.core_cost.proofs.Monotone.{ladder_lem}

parity-bound : (k : ℕ) → cost_of_parity k ≤ 13 * k
parity-bound zero = omega arith
parity-bound (suc zero) = omega arith
parity-bound (suc (suc zero)) = omega arith
parity-bound (suc (suc (suc zero))) = omega arith
parity-bound (suc (suc (suc (suc k)))) = omega (arith, parity-bound (suc (suc (suc k))))

pub amo-bound : (k : ℕ) → 2 * cost_of_amo k ≤ 13 * k
amo-bound zero = omega arith
amo-bound (suc zero) = omega arith
amo-bound (suc (suc zero)) = omega arith
amo-bound (suc (suc (suc zero))) = omega arith
amo-bound (suc (suc (suc (suc zero)))) = omega arith
amo-bound (suc (suc (suc (suc (suc k))))) = omega (arith, amo-bound (suc (suc (suc k))))

pub parity-fits : (k : ℕ) → FitsInMemory k → cost_of_parity k < 2 ^ 128
parity-fits k h = omega (arith, parity-bound k)

pub amo-fits : (k : ℕ) → FitsInMemory k → cost_of_amo k < 2 ^ 128
amo-fits k h = omega (arith, amo-bound k)

members-bound : (ns : List ℕ) → AllFitInMemory ns → cost_of_members ns ≤ length ns * 2 ^ 62
members-bound [] h = omega arith
members-bound (n ∷ ns) h = omega (arith, ladder_lem n, h.0, members-bound ns h.1)

all_diff-bound : (ns : List ℕ) → AllFitInMemory ns → cost_of_all_diff ns ≤ length ns * 2 ^ 65
all_diff-bound [] h = omega arith
all_diff-bound (n ∷ ns) h = omega (arith, ladder_lem n, h.0, all_diff-bound ns h.1)

lex-bound : (ps : List (ℕ × ℕ)) → PairsFitInMemory ps → cost_of_lex ps ≤ length ps * 2 ^ 65 + 1
lex-bound [] h = omega arith
lex-bound (p ∷ []) h = omega (arith, ladder_lem p.0, ladder_lem p.1, h.0, h.1.0)
lex-bound (p ∷ q ∷ ps) h = omega (arith, ladder_lem p.0, ladder_lem p.1, h.0, h.1.0, lex-bound (q ∷ ps) h.1.1)

pub pairs-bound : (n m : ℕ) → FitsInMemory n → FitsInMemory m → pairs_of_values n m ≤ 2 ^ 120
pairs-bound n m h k = mul-le (n + 1) (m + 1) (2 ^ 60) (2 ^ 60) (omega arith) (omega arith)

pub ladder-fits : (n : ℕ) → FitsInMemory n → cost_of_ladder n < 2 ^ 128
ladder-fits n h = omega (arith, ladder_lem n)

pub leq-fits : (n m : ℕ) → FitsInMemory n → FitsInMemory m → cost_of_leq n m < 2 ^ 128
leq-fits n m h k = omega (arith, ladder_lem n, ladder_lem m)

pub eq-fits : (n m : ℕ) → FitsInMemory n → FitsInMemory m → cost_of_eq n m < 2 ^ 128
eq-fits n m h k = omega (arith, ladder_lem n, ladder_lem m)

pub lex-fits : (ps : List (ℕ × ℕ)) → PairsFitInMemory ps → FitsInMemory (length ps) → cost_of_lex ps < 2 ^ 128
lex-fits ps h k = omega (arith, lex-bound ps h)

pub max-fits : (ns : List ℕ) (c : ℕ) → AllFitInMemory ns → FitsInMemory (length ns) → FitsInMemory c → cost_of_max ns c < 2 ^ 128
max-fits ns c h k i =
    let members = members-bound ns h in
    let pairs = pairs-bound c (length ns) i k in
    let order = ladder-fits c i in
    sums (cost_of_members ns) (pairs_of_values c (length ns)) (cost_of_ladder c) (length ns) members k pairs (omega (arith, ladder_lem c))
  where
    sums : (a b d k : ℕ) → a ≤ k * 2 ^ 62 → k < 2 ^ 60 → b ≤ 2 ^ 120 → d ≤ 2 ^ 62 → a + b + d < 2 ^ 128
    sums a b d k x y z w = omega arith

pub all_diff-fits : (ns : List ℕ) → AllFitInMemory ns → FitsInMemory (length ns) → cost_of_all_diff ns < 2 ^ 128
all_diff-fits ns h k = omega (arith, all_diff-bound ns h)

pub prod-fits : (n m c : ℕ) → FitsInMemory n → FitsInMemory m → FitsInMemory c → cost_of_prod n m c < 2 ^ 128
prod-fits n m c h k i = let p = pairs-bound n m h k in omega (arith, ladder_lem n, ladder_lem m, ladder_lem c)

pub div_mod-fits : (n m q r : ℕ) → FitsInMemory n → FitsInMemory m → FitsInMemory q → FitsInMemory r → cost_of_div_mod n m q r < 2 ^ 128
div_mod-fits n m q r h k i j = let p = pairs-bound n m h k in omega (arith, ladder_lem n, ladder_lem m, ladder_lem q, ladder_lem r)

pub table-fits : (n m : ℕ) → n < 2 ^ 62 → m < 2 ^ 62 → cost_of_table n m < 2 ^ 128
table-fits n m h k = let p : pairs_of_values n m ≤ 2 ^ 62 * 2 ^ 62 = mul-le (n + 1) (m + 1) (2 ^ 62) (2 ^ 62) (omega arith) (omega arith) in omega arith

-- a sum costs at most its table and the orders
cheaper-le : (t : Bool) (table net : ℕ) → cheaper t table net ≤ table
cheaper-le true table net = omega arith
cheaper-le false table net = omega arith

sum3_by_table : (n m c N M : ℕ) → cost_of_sum3_over n m c N M ≤ 2 * n + 2 * m + 2 * c + cost_of_table n m
sum3_by_table n m c N M =
    let l = cheaper-le (has_network N M) (cost_of_table n m) (cost_of_network N M c) in
    sums (cost_of_ladder n) (cost_of_ladder m) (cost_of_ladder c) _ (cost_of_table n m) (omega (arith, ladder_lem n)) (omega (arith, ladder_lem m)) (omega (arith, ladder_lem c)) l
  where
    sums : (a b d x t : ℕ) → a ≤ 2 * n → b ≤ 2 * m → d ≤ 2 * c → x ≤ t → a + b + d + x ≤ 2 * n + 2 * m + 2 * c + t
    sums a b d x t p q r s = omega arith

pub sum3-fits : (n m c N M : ℕ) → FitsInMemory n → FitsInMemory m → FitsInMemory c → cost_of_sum3_over n m c N M < 2 ^ 128
sum3-fits n m c N M h k i =
    let l = sum3_by_table n m c N M in
    let p = pairs-bound n m h k in
    sums (pairs_of_values n m) _ p l
  where
    sums : (p x : ℕ) → p ≤ 2 ^ 120 → x ≤ 2 * n + 2 * m + 2 * c + 6 * p → x < 2 ^ 128
    sums p x q r = omega arith

-- ---- counts

square_halves : (u d : ℕ) → 1 ≤ u → 1 ≤ d → 32 * (u * u) + 32 * (d * d) + 6 * (u * d) + 11 * (u + d) + 30 ≤ 32 * ((u + d) * (u + d)) + 12
square_halves u d h k =
    let p : u * 1 ≤ u * d = mul-le-mul (omega arith) k in
    let q : 1 * d ≤ u * d = mul-le-mul h (omega arith) in
    omega arith

square_least : (k : ℕ) → 1 ≤ k → k ≤ k * k
square_least k h = let p : k * 1 ≤ k * k = mul-le-mul (omega arith) h in omega arith

half-bound : (h x : ℕ) → x ≤ 32 * (h * h) + 12 + 2 * h → cost_of_half h x ≤ 32 * (h * h) + 12 + 3 * h
half-bound h x l =
    elim (cases_lt h 2) [ inl few ↦ rw (lt-leb 2 h few) (omega arith) | inr many ↦ rw (le-leb 2 h many) (omega arith) ]

few-bound : (k c N : ℕ) → cost_of_sum3_over k 0 c N 0 ≤ 32 * (k * k) + 12 + 2 * c
few-bound k c N =
    let l = sum3_by_table k 0 c N 0 in
    elim (cases_lt k 1) [
      | inl none ↦ let e : k ≡ 0 = omega arith in small k _ e l
      | inr some ↦ large k _ (square_least k some) l
    ]
  where
    small : (k x : ℕ) → k ≡ 0 → x ≤ 2 * k + 2 * 0 + 2 * c + 6 * ((k + 1) * (0 + 1)) → x ≤ 32 * (k * k) + 12 + 2 * c
    small k x e l = omega arith

    large : (k x : ℕ) → k ≤ k * k → x ≤ 2 * k + 2 * 0 + 2 * c + 6 * ((k + 1) * (0 + 1)) → x ≤ 32 * (k * k) + 12 + 2 * c
    large k x e l = omega arith

count_sums : (u d k a b s c : ℕ) → u + d ≡ k → 1 ≤ u → 1 ≤ d → a ≤ 32 * (u * u) + 12 + 3 * u → b ≤ 32 * (d * d) + 12 + 3 * d
    → s ≤ 2 * u + 2 * d + 2 * c + 6 * ((u + 1) * (d + 1)) → a + b + s ≤ 32 * (k * k) + 12 + 2 * c
count_sums u d k a b s c e x y p q r =
    let sq = square_halves u d x y in
    let e2 : 32 * ((u + d) * (u + d)) ≡ 32 * (k * k) = ap (λ w. 32 * (w * w)) e in
    omega arith

count_within-bound : (most k c : ℕ) → count_within most k c ≤ 32 * (k * k) + 12 + 2 * c
count_within-bound zero k c = few-bound k c k
count_within-bound (suc most) k c =
    elim (cases_lt k 2) [
      | inl few ↦ rw (lt-leb 2 k few) (few-bound k c k)
      | inr many ↦ rw (le-leb 2 k many)
          (count_sums (half_up k) (half_down k) k _ _ _ c (omega arith) (omega arith) (omega arith)
          (half-bound (half_up k) _ (count_within-bound most (half_up k) (half_up k)))
          (half-bound (half_down k) _ (count_within-bound most (half_down k) (half_down k)))
          (sum3_by_table (half_up k) (half_down k) c (half_up k) (half_down k)))
    ]

pub count-fits : (k c : ℕ) → FitsInMemory k → FitsInMemory c → cost_of_count k c < 2 ^ 128
unfolding cost_of_count
count-fits k c h i =
    let l = count_within-bound k k c in
    let sq : k * k ≤ 2 ^ 60 * 2 ^ 60 = mul-le k k (2 ^ 60) (2 ^ 60) (omega arith) (omega arith) in
    omega arith
