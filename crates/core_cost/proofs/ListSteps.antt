-- The steps of loops over lists of integers, and the last pair of lists in order.
use Rattle.std.proofs.Common.{◌≡◌, ℕ, ◌+◌, ◌<◌, List, [], ◌∷◌, ◌++◌, length, get_or, drop, arith}
use Rattle.std.proofs.lemmas.List.{at_drop_more}
use Rattle.core_cost.specs.Comparisons.{cost_of_leq, cost_of_pair, cost_of_lex}
use Rattle.core_cost.specs.Arithmetic.{cost_of_members, cost_of_member, cost_of_all_diff, cost_of_different}

pub members-drop : (xs : List ℕ) (i d : ℕ) → i < length xs
    → cost_of_members (drop i xs) ≡ cost_of_member (get_or xs i d) + cost_of_members (drop (i + 1) xs)
members-drop xs i d h = at_drop_more cost_of_members xs i d h

pub all_diff-drop : (xs : List ℕ) (i d : ℕ) → i < length xs
    → cost_of_all_diff (drop i xs) ≡ cost_of_different (get_or xs i d) + cost_of_all_diff (drop (i + 1) xs)
all_diff-drop xs i d h = at_drop_more cost_of_all_diff xs i d h

-- the pairs before the last
abbrev pub cost_before : List (ℕ × ℕ) → ℕ
cost_before [] = 0
cost_before (pair ∷ pairs) = cost_of_pair pair + cost_before pairs

pub before-drop : (xs : List (ℕ × ℕ)) (i : ℕ) (d : ℕ × ℕ) → i < length xs
    → cost_before (drop i xs) ≡ cost_of_pair (get_or xs i d) + cost_before (drop (i + 1) xs)
before-drop xs i d h = at_drop_more cost_before xs i d h

pub lex-last : (before : List (ℕ × ℕ)) (last : ℕ × ℕ)
    → cost_of_lex (before ++ last ∷ []) ≡ cost_before before + cost_of_leq last.0 last.1
lex-last [] last = omega arith
lex-last (pair ∷ []) last = omega arith
lex-last (pair ∷ next ∷ rest) last = omega (arith, lex-last (next ∷ rest) last)
