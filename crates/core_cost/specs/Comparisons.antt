-- The costs of the forms that say or compare the order of integers, by the integers' numbers of steps.
use Rattle.std.specs.Prelude.{ℕ, ◌+◌, ◌*◌, min, List, [], ◌∷◌}
use Rattle.std.proofs.Common.{zero, suc}

-- that an integer is ordered: a clause of two literals for each two neighbouring steps
abbrev pub cost_of_ladder : ℕ → ℕ
cost_of_ladder zero = 0
cost_of_ladder (suc n) = 2 * n

-- r is the truth of A <= B
abbrev pub cost_of_leq : ℕ → ℕ → ℕ
cost_of_leq n m = 3 * (n + m + 2) + cost_of_ladder n + cost_of_ladder m

-- r is the truth of A = B
abbrev pub cost_of_eq : ℕ → ℕ → ℕ
cost_of_eq n m = 3 * (n + m + 2) + 5 * (min n m + 1) + cost_of_ladder n + cost_of_ladder m

-- what a pair before the last adds: its two comparisons, four fresh variables and two conjunctions
abbrev pub cost_of_pair : ℕ × ℕ → ℕ
cost_of_pair pair = 18 + 2 * cost_of_leq pair.0 pair.1

-- r is the truth of one list of integers before another, by the pairs of the two lists' numbers of steps
abbrev pub cost_of_lex : List (ℕ × ℕ) → ℕ
cost_of_lex [] = 1
cost_of_lex (pair ∷ []) = cost_of_leq pair.0 pair.1
cost_of_lex (pair ∷ next ∷ rest) = cost_of_pair pair + cost_of_lex (next ∷ rest)
