-- Lists whose members differ, and lists that are in order.
use Rattle.std.specs.Prelude.{◌≡◌, ◌≢◌, ◌⊎◌, ℕ, ◌<◌, ℤ, ◌<ℤ◌, int_lt, Bool, true, false}
use Rattle.std.specs.Prelude.{not, ◌&&◌, ◌||◌, List, [], ◌∷◌, length, slice_index_or, IsTrue}
use Rattle.std.specs.Ordering.{int_eq}
use Rattle.model_meaning.specs.Terms.{value_at}

-- members at different places differ
abbrev pub AllDiffer : List ℤ → Type 0
AllDiffer xs = (i j : ℕ) → i < j → j < length xs → value_at xs i ≢ value_at xs j

-- members at two places whose conditions are both true differ
abbrev pub DifferWhere : List ℤ → List Bool → Type 0
DifferWhere xs cs =
    (i j : ℕ) → i < j → j < length xs → IsTrue (slice_index_or cs i false)
    → IsTrue (slice_index_or cs j false) → value_at xs i ≢ value_at xs j

-- the first list is before the second: at some place of both it has the lesser member, and the members
-- at all places before that are equal
abbrev pub IsBefore : List ℤ → List ℤ → Type 0
IsBefore xs ys =
    (k : ℕ) × (k < length xs) × (k < length ys) × (value_at xs k <ℤ value_at ys k)
    × ((i : ℕ) → i < k → value_at xs i ≡ value_at ys i)

-- two lists are in order: the first is before the second, or, where the order isn't strict, they are equal
abbrev pub InOrder : Bool → List ℤ → List ℤ → Type 0
InOrder true xs ys = IsBefore xs ys
InOrder false xs ys = IsBefore xs ys ⊎ (xs ≡ ys)

-- The same as tests.

-- whether no member is x
abbrev pub differs_from : ℤ → List ℤ → Bool
differs_from x [] = true
differs_from x (y ∷ ys) = not (int_eq x y) && differs_from x ys

-- whether each member differs from all later ones
abbrev pub all_differ : List ℤ → Bool
all_differ [] = true
all_differ (x ∷ xs) = differs_from x xs && all_differ xs

-- whether no member whose condition is true is x
abbrev pub differs_where : ℤ → List ℤ → List Bool → Bool
differs_where x [] cs = true
differs_where x (y ∷ ys) [] = true
differs_where x (y ∷ ys) (c ∷ cs) = not (c && int_eq x y) && differs_where x ys cs

-- whether each member whose condition is true differs from all later ones whose condition is true
abbrev pub differ_where : List ℤ → List Bool → Bool
differ_where [] cs = true
differ_where (x ∷ xs) [] = true
differ_where (x ∷ xs) (c ∷ cs) = (not c || differs_where x xs cs) && differ_where xs cs

-- whether two lists are in order, by their first members that differ
abbrev pub in_order : Bool → List ℤ → List ℤ → Bool
in_order strict [] [] = not strict
in_order strict [] (y ∷ ys) = false
in_order strict (x ∷ xs) [] = false
in_order strict (x ∷ xs) (y ∷ ys) = int_lt x y || (int_eq x y && in_order strict xs ys)
