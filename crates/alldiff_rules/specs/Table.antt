-- Up to three different places at which something stands.
use Rattle.std.specs.Prelude.{◌≡◌, ◌≢◌, ◌⊎◌, ◌==◌, ℕ, ◌+◌, nat_le, Bool, false, ℤ, Option}
use Rattle.std.specs.Prelude.{None, Some, if◌then◌else◌}
use Rattle.std.specs.declared.cmp.Ordering.{Ordering}
use Rattle.std.specs.Ordering.{int_cmp, nat_cmp, ordering_then}
use Rattle.alldiff_rules.specs.declared.table.Places.{Places}

-- pairs of numbers in order, by the first ones and then by the second ones
abbrev pub pair_cmp : ℤ × ℕ → ℤ × ℕ → Ordering
pair_cmp x y = ordering_then (int_cmp x.0 y.0) (nat_cmp x.1 y.1)

-- one place alone
abbrev pub one_place : ℕ → Places
one_place i = record { first = i; second = None; third = None }

-- a place more behind the second one, unless it stands there or there are three
abbrev pub with_third : Places → ℕ → ℕ → Option ℕ → Places
with_third h s i None = if s == i then h else record h { third = Some i }
with_third h s i (Some t) = h

abbrev pub with_second : Places → ℕ → Option ℕ → Places
with_second h i None = record h { second = Some i }
with_second h i (Some s) = with_third h s i h.third

-- a place more, unless it stands there or there are three
abbrev pub with_place : Places → ℕ → Places
with_place h i = if h.first == i then h else with_second h i h.second

abbrev pub joined : Option Places → ℕ → Places
joined None i = one_place i
joined (Some h) i = with_place h i

-- one where the place is another than k
abbrev pub other_than : ℕ → Option ℕ → ℕ
other_than k None = 0
other_than k (Some i) = if i == k then 0 else 1

-- how many of them are others than k
abbrev pub number_other : ℕ → Places → ℕ
number_other k h = other_than k (Some h.first) + other_than k h.second + other_than k h.third

-- there are at least n others than k
abbrev pub has_others : ℕ → ℕ → Option Places → Bool
has_others n k None = false
has_others n k (Some h) = nat_le n (number_other k h)

-- something holds of another place than k, or of two
abbrev pub HasOther : (ℕ → Type 0) → ℕ → Type 0
HasOther P k = (i : ℕ) × P i × (i ≢ k)

abbrev pub HasTwoOthers : (ℕ → Type 0) → ℕ → Type 0
HasTwoOthers P k = (i : ℕ) × (j : ℕ) × P i × P j × (i ≢ j) × (i ≢ k) × (j ≢ k)

-- three different ones of the places of which something holds: where there are fewer, all of them
abbrev pub ShowsThird : (ℕ → Type 0) → ℕ → ℕ → Option ℕ → Type 0
ShowsThird P f s None = (i : ℕ) → P i → (i ≡ f) ⊎ (i ≡ s)
ShowsThird P f s (Some t) = P t × (t ≢ f) × (t ≢ s)

abbrev pub ShowsSecond : (ℕ → Type 0) → ℕ → Option ℕ → Option ℕ → Type 0
ShowsSecond P f None third = (third ≡ None) × ((i : ℕ) → P i → i ≡ f)
ShowsSecond P f (Some s) third = P s × (s ≢ f) × ShowsThird P f s third

abbrev pub Shows : (ℕ → Type 0) → Option Places → Type 0
Shows P None = (i : ℕ) → P i → ⊥
Shows P (Some h) = P h.first × ShowsSecond P h.first h.second h.third
