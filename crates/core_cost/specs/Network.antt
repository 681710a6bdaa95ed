-- The cost of a sum by its merge network, and by its table of values.
--
-- A merge network of N and M atoms has two halves: the one of the odd places of both, and the one of the even places.
use Rattle.std.specs.Prelude.{ℕ, ◌+◌, ◌-◌, ◌*◌, ◌/◌, ◌&&◌, min, Bool, nat_le, if◌then◌else◌}
use Rattle.std.proofs.Common.{zero, suc}
use Rattle.core_cost.specs.Comparisons.{cost_of_ladder, cost_of_eq}
use Rattle.core_cost.specs.Arithmetic.{pairs_of_values}

-- how many places are odd, and how many are even
abbrev pub half_up : ℕ → ℕ
half_up n = (n + 1) / 2

abbrev pub half_down : ℕ → ℕ
half_down n = n / 2

-- there is a network where both sides have an atom and one has two
abbrev pub has_network : ℕ → ℕ → Bool
has_network n m = nat_le 1 n && nat_le 1 m && nat_le 3 (n + m)

-- two clauses for each pair of a value of A and one of B
abbrev pub cost_of_table : ℕ → ℕ → ℕ
cost_of_table n m = 6 * pairs_of_values n m

-- the lesser of the two, where there is a network
abbrev pub cheaper : Bool → ℕ → ℕ → ℕ
cheaper network_stands table network = if network_stands then min table network else table

-- the cost of a network by the costs of its halves: its wires, its comparators with the two fresh variables of each,
-- and that what it gives is the sum, which has c steps
abbrev pub cost_over_halves : ℕ → ℕ → ℕ → ℕ → ℕ
cost_over_halves odd even wires c = odd + even + wires + 16 * ((wires - 1) / 2) + cost_of_eq wires c

-- the cost of the sum of n and m steps of weight 1, with at most so many halvings
abbrev pub unit_sum_within : ℕ → ℕ → ℕ → ℕ
unit_sum_within zero n m = cost_of_ladder n + cost_of_ladder m + cost_of_ladder (n + m) + cost_of_table n m
unit_sum_within (suc most) n m =
    cost_of_ladder n + cost_of_ladder m + cost_of_ladder (n + m)
    + cheaper (has_network n m) (cost_of_table n m)
    (cost_over_halves (unit_sum_within most (half_up n) (half_up m)) (unit_sum_within most (half_down n) (half_down m))
    (n + m) (n + m))

-- the cost of the sum of n and m steps of weight 1; after n + m halvings no network is left
unfoldable pub cost_of_unit_sum : ℕ → ℕ → ℕ
cost_of_unit_sum n m = unit_sum_within (n + m) n m

-- the cost of the network of n and m atoms for a sum with c steps
abbrev pub cost_of_network : ℕ → ℕ → ℕ → ℕ
cost_of_network n m c =
    cost_over_halves (cost_of_unit_sum (half_up n) (half_up m)) (cost_of_unit_sum (half_down n) (half_down m)) (n + m) c

-- the cost of the sum of n and m steps, which has c steps; the network has one atom for each unit of the two sides
abbrev pub cost_of_sum3_over : ℕ → ℕ → ℕ → ℕ → ℕ → ℕ
cost_of_sum3_over n m c first_units second_units =
    cost_of_ladder n + cost_of_ladder m + cost_of_ladder c
    + cheaper (has_network first_units second_units) (cost_of_table n m) (cost_of_network first_units second_units c)
