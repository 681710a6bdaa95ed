-- The weight of reified all-different: for each two members a fresh Boolean that is the truth of their being equal, and
-- that none of these is true.
use Rattle.std.specs.Prelude.{ℕ, ◌+◌, ◌*◌, List, [], ◌∷◌, length}
use Rattle.core_cost.specs.ListForms.{cost_of_conj}
use Rattle.core_cost.specs.Comparisons.{cost_of_ladder, cost_of_eq}

-- a member with each of the members behind it, by their numbers of steps
abbrev pub weight_of_pairs_with : ℕ → List ℕ → ℕ
weight_of_pairs_with n [] = 0
weight_of_pairs_with n (m ∷ ms) = 1 + cost_of_eq n m + weight_of_pairs_with n ms

abbrev pub weight_of_pairs : List ℕ → ℕ
weight_of_pairs [] = 0
weight_of_pairs (n ∷ ns) = weight_of_pairs_with n ns + weight_of_pairs ns

-- how many pairs there are
abbrev pub count_of_pairs : List ℕ → ℕ
count_of_pairs [] = 0
count_of_pairs (n ∷ ns) = length ns + count_of_pairs ns

abbrev pub weight_of_reified_all_different : List ℕ → ℕ
weight_of_reified_all_different ns = weight_of_pairs ns + cost_of_conj (count_of_pairs ns)

-- The same of ascending numbers without a walk over pairs: what a member adds to each pair in which it has the lesser
-- number of steps, and to each in which it has the greater one.

abbrev pub weight_as_lesser : ℕ → ℕ
weight_as_lesser n = 8 * n + 12 + cost_of_ladder n

abbrev pub weight_as_greater : ℕ → ℕ
weight_as_greater n = 3 * n + cost_of_ladder n

abbrev pub weights_as_greater : List ℕ → ℕ
weights_as_greater [] = 0
weights_as_greater (n ∷ ns) = weight_as_greater n + weights_as_greater ns

abbrev pub weight_of_ascending : List ℕ → ℕ
weight_of_ascending [] = 0
weight_of_ascending (n ∷ ns) = length ns * weight_as_lesser n + weights_as_greater ns + weight_of_ascending ns
