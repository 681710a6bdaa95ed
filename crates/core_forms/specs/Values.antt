-- What lists of values say: their sum, their greatest, which of them differ, and which list stands first.
use Rattle.std.specs.Prelude.{Bool, true, not, ◌&&◌, ◌||◌, List, [], ◌∷◌, ℤ, pos, ◌+ℤ◌, int_le}
use Rattle.std.specs.Prelude.{int_lt, if◌then◌else◌}
use Rattle.std.specs.Ordering.{int_eq}
use Rattle.order_ints.specs.declared.order_int.OrdInt.{OrdInt}
use Rattle.order_ints.specs.Truth.{Valuation}
use Rattle.order_ints.specs.OrderValue.{value_of, in_order}
use Rattle.order_ints.specs.OrderLevels.{is_among}

-- all integers are ordered
abbrev pub all_ordered : Valuation → List OrdInt → Bool
all_ordered σ [] = true
all_ordered σ (a ∷ ints) = in_order σ a.steps && all_ordered σ ints

-- the value of each integer
abbrev pub values : Valuation → List OrdInt → List ℤ
values σ [] = []
values σ (a ∷ ints) = value_of σ a ∷ values σ ints

-- the values, added up
abbrev pub total : List ℤ → ℤ
total [] = pos 0
total (v ∷ vs) = v +ℤ total vs

-- all values are at most this one
abbrev pub all_at_most : ℤ → List ℤ → Bool
all_at_most top [] = true
all_at_most top (v ∷ vs) = int_le v top && all_at_most top vs

-- this value is the greatest one of those: one of them, and none is above it
abbrev pub is_greatest : ℤ → List ℤ → Bool
is_greatest top vs = is_among top vs && all_at_most top vs

-- no value with a true condition is this one
abbrev pub none_equal : ℤ → List ℤ → List Bool → Bool
none_equal v [] cs = true
none_equal v (w ∷ vs) [] = true
none_equal v (w ∷ vs) (c ∷ cs) = not (c && int_eq v w) && none_equal v vs cs

-- values at two places with both conditions true differ
abbrev pub all_differ : List ℤ → List Bool → Bool
all_differ [] cs = true
all_differ (v ∷ vs) [] = true
all_differ (v ∷ vs) (c ∷ cs) = (not c || none_equal v vs cs) && all_differ vs cs

-- the first list stands before the second where at the first place at which they differ its value is less; equal
-- lists are in strict order nowhere, and otherwise everywhere
abbrev pub is_before : Bool → List ℤ → List ℤ → Bool
is_before strict [] ws = not strict
is_before strict (v ∷ vs) [] = not strict
is_before strict (v ∷ vs) (w ∷ ws) = if int_eq v w then is_before strict vs ws else int_lt v w
