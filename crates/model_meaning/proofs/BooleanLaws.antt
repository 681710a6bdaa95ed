-- What the number of true members tells of a list.
use Rattle.std.proofs.Common.{◌≡◌, ◌≤◌, Bool, true, false, ◌||◌, nat_eq, List, [], ◌∷◌, length, refl, arith}
use Rattle.std.proofs.lemmas.Bool.Decides.{nat_tests}
use Rattle.model_meaning.specs.Booleans.{all_true, none_true, count_true}

pub count_true-most : (xs : List Bool) → count_true xs ≤ length xs
count_true-most [] = omega arith
count_true-most (true ∷ xs) = omega (arith, count_true-most xs)
count_true-most (false ∷ xs) = omega (arith, count_true-most xs)

pub none_true-count : (xs : List Bool) → none_true xs ≡ nat_eq (count_true xs) 0
none_true-count [] = refl
none_true-count (true ∷ xs) = grind (arith, nat_tests)
none_true-count (false ∷ xs) = grind (arith, nat_tests, none_true-count xs)

pub all_true-count : (xs : List Bool) → all_true xs ≡ nat_eq (count_true xs) (length xs)
all_true-count [] = refl
all_true-count (true ∷ xs) = grind (arith, nat_tests, all_true-count xs)
all_true-count (false ∷ xs) = grind (arith, nat_tests, count_true-most xs)

-- all are equal where none is true, or as many as there are
pub all_equal-count : (xs : List Bool) → (all_true xs || none_true xs) ≡ (nat_eq (count_true xs) 0 || nat_eq (count_true xs) (length xs))
all_equal-count xs = grind (arith, none_true-count xs, all_true-count xs)
