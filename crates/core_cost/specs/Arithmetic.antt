-- The costs of products, greatest members and different members, by the integers' numbers of steps.
use Rattle.std.specs.Prelude.{ℕ, ◌+◌, ◌*◌, List, [], ◌∷◌, length}
use Rattle.core_cost.specs.Comparisons.{cost_of_ladder}

-- what a member adds to the greatest member's cost: two literals for each value, and its order
abbrev pub cost_of_member : ℕ → ℕ
cost_of_member n = 2 * (n + 1) + cost_of_ladder n

-- what all members add
abbrev pub cost_of_members : List ℕ → ℕ
cost_of_members [] = 0
cost_of_members (n ∷ members) = cost_of_member n + cost_of_members members

-- the greatest of the members, with c steps
abbrev pub cost_of_max : List ℕ → ℕ → ℕ
cost_of_max members c = cost_of_members members + (c + 1) * (length members + 1) + cost_of_ladder c

-- a member that differs from the others where the conditions are true
abbrev pub cost_of_different : ℕ → ℕ
cost_of_different n = 19 * (n + 1) + cost_of_ladder n

-- the members differ where their conditions are true
abbrev pub cost_of_all_diff : List ℕ → ℕ
cost_of_all_diff [] = 0
cost_of_all_diff (n ∷ members) = cost_of_different n + cost_of_all_diff members

-- the pairs of a value of A and a value of B
abbrev pub pairs_of_values : ℕ → ℕ → ℕ
pairs_of_values n m = (n + 1) * (m + 1)

-- A times B is C
abbrev pub cost_of_prod : ℕ → ℕ → ℕ → ℕ
cost_of_prod n m c = 10 * pairs_of_values n m + cost_of_ladder n + cost_of_ladder m + cost_of_ladder c

-- A is B times Q and the remainder R
abbrev pub cost_of_div_mod : ℕ → ℕ → ℕ → ℕ → ℕ
cost_of_div_mod n m q r = 20 * pairs_of_values n m + cost_of_ladder n + cost_of_ladder m + cost_of_ladder q
    + cost_of_ladder r
