-- A network costs at most a multiple of its atoms and its depths.
use Rattle.std.proofs.Common.{◌≡◌, ℕ, ◌+◌, ◌*◌, ◌^◌, ◌<◌, ◌≤◌, false, min, [], zero, suc, ap, arith, inl, inr}
use Rattle.std.proofs.Math.Nat.{mul-le-mul, pow-suc}
use Rattle.std.proofs.lemmas.Bool.{cases_Bool}
use Rattle.core_cost.specs.Comparisons.{cost_of_ladder}
use Rattle.core_cost.specs.Network.{half_up, half_down, has_network, cost_of_table, cost_over_halves, cost_of_unit_sum, cost_of_network, cost_of_sum3_over}
use Rattle.core_cost.proofs.NetworkLaws.{sides, unit_sum_by_table, unit_sum_by_network}
use Rattle.core_cost.proofs.Monotone.{ladder_lem, no_sides}

-- a sum without a network, of sides that are not both empty
table-bound : (n m N M : ℕ) → n ≤ N → m ≤ M → has_network N M ≡ false → cost_of_table n m ≤ 6 * (N + M) + 12
table-bound n m N M h k none =
    elim (no_sides N M none) [
      | inl first ↦ let e : n ≡ 0 = omega arith in rw e (omega arith)
      | inr more ↦ elim more [
        | inl second ↦ let e : m ≡ 0 = omega arith in rw e (omega arith)
        | inr few ↦ few_steps n m N M h k few
      ]
    ]
  where
    few_steps : (n m N M : ℕ) → n ≤ N → m ≤ M → N + M ≤ 2 → cost_of_table n m ≤ 6 * (N + M) + 12
    few_steps zero m N M h k few = omega arith
    few_steps (suc n) zero N M h k few = omega arith
    few_steps (suc n) (suc m) N M h k few = let e : n ≡ 0 = omega arith in let f : m ≡ 0 = omega arith in rw (e, f) (omega arith)

halves-join : (per x y s a b : ℕ) → x + y ≡ s → a + 11 ≤ per * x → b + 11 ≤ per * y → a + b + 22 ≤ per * s
halves-join per x y s a b e h k = let j : per * (x + y) ≡ per * s = ap (λ w. per * w) e in omega arith

-- a network of s atoms over halves
over_halves-bound : (odd even s c : ℕ) → 1 ≤ s → cost_over_halves odd even s c ≤ odd + even + 19 * s + 5 * c + 11
over_halves-bound odd even s c h = omega (arith, ladder_lem s, ladder_lem c)

unit_ladders : (n m : ℕ) → 1 ≤ n + m → cost_of_ladder n + cost_of_ladder m + cost_of_ladder (n + m) + 4 ≤ 4 * (n + m)
unit_ladders n m h = omega (arith, ladder_lem n, ladder_lem m, ladder_lem (n + m))

step_sums : (d s ladders table net odd even : ℕ) → ladders + 4 ≤ 4 * s → net ≤ odd + even + 19 * s + 5 * s + 11
    → odd + even + 22 ≤ (29 + 28 * d) * s → ladders + min table net + 11 ≤ (29 + 28 * suc d) * s
step_sums d s ladders table net odd even h k i =
    let least : min table net ≤ net = omega arith in
    let next : (29 + 28 * suc d) * s ≡ (29 + 28 * d) * s + 28 * s = omega arith in
    add ((29 + 28 * d) * s) ((29 + 28 * suc d) * s) (min table net) least i next
  where
    add : (a b x : ℕ) → x ≤ net → odd + even + 22 ≤ a → b ≡ a + 28 * s → ladders + x + 11 ≤ b
    add a b x l j e = omega arith

base_sums : (per s ladders table : ℕ) → 1 ≤ s → 29 ≤ per → ladders + 4 ≤ 4 * s → table ≤ 6 * s + 12 → ladders + table + 11 ≤ per * s
base_sums per s ladders table h p k i = let l : 29 * s ≤ per * s = mul-le-mul p (omega arith) in omega arith

by_table : (d n m : ℕ) → 1 ≤ n + m → has_network n m ≡ false → cost_of_unit_sum n m + 11 ≤ (29 + 28 * d) * (n + m)
by_table d n m some none =
    rw (unit_sum_by_table n m none)
    (base_sums (29 + 28 * d) (n + m) _ (cost_of_table n m) some (omega arith) (unit_ladders n m some)
    (table-bound n m n m (omega arith) (omega arith) none))

-- n and m steps of weight 1, of which neither is more than 2 to the power d
pub unit_sum-bound : (d n m : ℕ) → n ≤ 2 ^ d → m ≤ 2 ^ d → 1 ≤ n + m → cost_of_unit_sum n m + 11 ≤ (29 + 28 * d) * (n + m)
unit_sum-bound zero n m h k some =
    elim (cases_Bool (has_network n m)) [
      | inl stands ↦ let s = sides n m stands in absurd (omega arith)
      | inr none ↦ by_table zero n m some none
    ]
unit_sum-bound (suc d) n m h k some =
    elim (cases_Bool (has_network n m)) [
      | inl stands ↦
          let s = sides n m stands in
          let double = pow-suc 2 d in
          let odd = unit_sum-bound d (half_up n) (half_up m) (omega arith) (omega arith) (omega arith) in
          let even = unit_sum-bound d (half_down n) (half_down m) (omega arith) (omega arith) (omega arith) in
          let join = halves-join (29 + 28 * d) (half_up n + half_up m) (half_down n + half_down m) (n + m) _ _ (omega arith) odd even in
          rw (unit_sum_by_network n m stands)
          (step_sums d (n + m) _ (cost_of_table n m) (cost_of_network n m (n + m)) _ _ (unit_ladders n m some)
          (over_halves-bound _ _ (n + m) (n + m) some) join)
      | inr none ↦ by_table (suc d) n m some none
    ]

side_ladders : (n m c N M : ℕ) → n ≤ N → m ≤ M → cost_of_ladder n + cost_of_ladder m + cost_of_ladder c ≤ 2 * (N + M) + 2 * c
side_ladders n m c N M h k = omega (arith, ladder_lem n, ladder_lem m, ladder_lem c)

-- the last depth of numbers of 128 bits
widest : (s c ladders table net odd even : ℕ) → ladders ≤ 2 * s + 2 * c → net ≤ odd + even + 19 * s + 5 * c + 11 → odd + even + 22 ≤ (29 + 28 * 127) * s
    → ladders + min table net ≤ 2 ^ 12 * (s + c + 1)
widest s c ladders table net odd even h k i = omega arith

pub sum3_over-bound : (n m c N M : ℕ) → n ≤ N → m ≤ M → N < 2 ^ 128 → M < 2 ^ 128 → cost_of_sum3_over n m c N M ≤ 2 ^ 12 * (N + M + c + 1)
sum3_over-bound n m c N M a b h k =
    let ladders = side_ladders n m c N M a b in
    elim (cases_Bool (has_network N M)) [
      | inl stands ↦
          let s = sides N M stands in
          let odd = unit_sum-bound 127 (half_up N) (half_up M) (omega arith) (omega arith) (omega arith) in
          let even = unit_sum-bound 127 (half_down N) (half_down M) (omega arith) (omega arith) (omega arith) in
          let join = halves-join (29 + 28 * 127) (half_up N + half_up M) (half_down N + half_down M) (N + M) _ _ (omega arith) odd even in
          rw stands (widest (N + M) c _ (cost_of_table n m) _ _ _ ladders (over_halves-bound _ _ (N + M) c (omega arith)) join)
      | inr none ↦ rw none (last (N + M) c _ (cost_of_table n m) ladders (table-bound n m N M a b none))
    ]
  where
    last : (s c ladders table : ℕ) → ladders ≤ 2 * s + 2 * c → table ≤ 6 * s + 12 → ladders + table ≤ 2 ^ 12 * (s + c + 1)
    last s c ladders table x y = omega arith
