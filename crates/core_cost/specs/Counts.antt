-- The cost of a count of true members, by halves.
use Rattle.std.specs.Prelude.{ℕ, ◌+◌, nat_le, if◌then◌else◌}
use Rattle.std.proofs.Common.{zero, suc}
use Rattle.core_cost.specs.Network.{half_up, half_down, cost_of_sum3_over}

-- what a half of a count adds: nothing below two members, and else its fresh steps and its own count
abbrev pub cost_of_half : ℕ → ℕ → ℕ
cost_of_half h counted = if nat_le 2 h then h + counted else 0

-- the number of true ones of k members is an integer with c steps, with at most so many halvings: the sum of the counts
-- of two halves, where one member is its own count
abbrev pub count_within : ℕ → ℕ → ℕ → ℕ
count_within zero k c = cost_of_sum3_over k 0 c k 0
count_within (suc most) k c =
    if nat_le 2 k
    then cost_of_half (half_up k) (count_within most (half_up k) (half_up k))
    + cost_of_half (half_down k) (count_within most (half_down k) (half_down k))
    + cost_of_sum3_over (half_up k) (half_down k) c (half_up k) (half_down k)
    else cost_of_sum3_over k 0 c k 0

-- the number of true ones of k members is an integer with c steps; after k halvings no member is left
unfoldable pub cost_of_count : ℕ → ℕ → ℕ
cost_of_count k c = count_within k k c
