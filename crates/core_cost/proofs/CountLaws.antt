-- The cost of a count meets its equation.
use Rattle.std.proofs.Common.{◌≡◌, ℕ, ◌+◌, ◌<◌, ◌≤◌, Bool, true, false, cond, zero, suc, refl, arith}
use Rattle.std.proofs.lemmas.Bool.{lt-leb, le-leb}
use Rattle.core_cost.specs.Network.{half_up, half_down, cost_of_sum3_over}
use Rattle.core_cost.specs.Counts.{cost_of_half, count_within, cost_of_count}

cond-same : (t : Bool) (x y z : ℕ) → (t ≡ true → x ≡ y) → cond t x z ≡ cond t y z
cond-same true x y z h = h refl
cond-same false x y z h = refl

-- more halvings than are needed change nothing
pub count_within-same : (d e k c : ℕ) → k ≤ d + 1 → k ≤ e + 1 → count_within d k c ≡ count_within e k c
count_within-same zero zero k c h i = refl
count_within-same zero (suc e) k c h i = rw (lt-leb 2 k (omega arith)) refl
count_within-same (suc d) zero k c h i = rw (lt-leb 2 k (omega arith)) refl
count_within-same (suc d) (suc e) k c h i =
    let up = count_within-same d e (half_up k) (half_up k) (omega arith) (omega arith) in
    let down = count_within-same d e (half_down k) (half_down k) (omega arith) (omega arith) in
    rw (up, down) refl

-- a count of fewer than two members
pub count_of_few : (k c : ℕ) → k < 2 → cost_of_count k c ≡ cost_of_sum3_over k 0 c k 0
unfolding cost_of_count
count_of_few zero c h = refl
count_of_few (suc k) c h = rw (lt-leb 2 (suc k) (omega arith)) refl

-- a count of two members and more
pub count_of_halves : (k c : ℕ) → 2 ≤ k → cost_of_count k c
    ≡ cost_of_half (half_up k) (cost_of_count (half_up k) (half_up k))
    + cost_of_half (half_down k) (cost_of_count (half_down k) (half_down k))
    + cost_of_sum3_over (half_up k) (half_down k) c (half_up k) (half_down k)
unfolding cost_of_count
count_of_halves zero c h = absurd (omega arith)
count_of_halves (suc k) c h =
    let up = count_within-same k (half_up (suc k)) (half_up (suc k)) (half_up (suc k)) (omega arith) (omega arith) in
    let down = count_within-same k (half_down (suc k)) (half_down (suc k)) (half_down (suc k)) (omega arith) (omega arith) in
    rw (le-leb 2 (suc k) (omega arith), up, down) refl

-- the counts of no member and of one
pub counts_at_zero : (n : ℕ) → n ≡ 0 → (cost_of_count n n ≡ 6) × (cost_of_count (n + 1) (n + 1) ≡ 12)
unfolding cost_of_count
counts_at_zero zero h = (refl, refl)
counts_at_zero (suc n) h = absurd (omega arith)
