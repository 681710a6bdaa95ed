-- The values of members, each with the place of the member, and a tally of them.
use Rattle.std.specs.Prelude.{◌≡◌, ◌⊎◌, ℕ, ◌+◌, List, [], ◌∷◌, ◌++◌, map, ℤ}
use Rattle.std.specs.BTreeMap.{get}
use Rattle.std.specs.Ordering.{int_cmp}
use Rattle.order_ints.specs.declared.order_int.OrdInt.{OrdInt}
use Rattle.order_ints.specs.OrderLevels.{values_of}
use Rattle.alldiff_rules.specs.declared.tally.Tally.{Tally}
use Rattle.alldiff_rules.specs.Table.{Shows}
use Rattle.alldiff_rules.specs.Members.{number_new}

-- the values with one place
abbrev pub placed_at : ℕ → List ℤ → List (ℤ × ℕ)
placed_at place vs = map (λ v. (v, place)) vs

-- the values of all members, of which the first one stands at a place
abbrev pub placed_from : ℕ → List OrdInt → List (ℤ × ℕ)
placed_from place [] = []
placed_from place (a ∷ ints) = placed_at place (values_of a) ++ placed_from (place + 1) ints

-- the values that are listed
abbrev pub listed_values : List (ℤ × ℕ) → List ℤ
listed_values entries = map (λ (e : ℤ × ℕ). e.0) entries

-- the value is listed with the place
abbrev pub IsPlaced : ℤ → ℕ → List (ℤ × ℕ) → Type 0
IsPlaced v i [] = ⊥
IsPlaced v i (e ∷ entries) = ((e.0 ≡ v) × (e.1 ≡ i)) ⊎ IsPlaced v i entries

-- for each value up to three different places, and how many different values there are
pub record IsTally (entries : List (ℤ × ℕ)) (tally : Tally) : Type 0 where
  pub values : (v : ℤ) → Shows (λ i. IsPlaced v i entries) (get int_cmp tally.values v)
  pub count : tally.count ≡ number_new [] (listed_values entries)
