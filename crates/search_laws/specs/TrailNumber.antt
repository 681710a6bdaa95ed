-- The trail as a binary number of as many digits as there are variables: 0 for an entry that has a reason, 1 for one
-- that was decided and for a place that is free.
use Rattle.std.specs.Prelude.{ℕ, zero, suc, ◌+◌, ◌^◌, ◌<◌, ◌≤◌, Bool, true, false, List, []}
use Rattle.std.specs.Prelude.{◌∷◌, ◌++◌, length, if◌then◌else◌}

-- the number of a trail of which each entry says whether it was decided
abbrev pub trail_number : ℕ → List Bool → ℕ
trail_number zero entries = 0
trail_number (suc vars) [] = 2 ^ vars + trail_number vars []
trail_number (suc vars) (decided ∷ entries) = (if decided then 2 ^ vars else 0) + trail_number vars entries

-- an assignment never raises the number
abbrev pub NeverRises : Type 0
NeverRises = (vars : ℕ) (entries more : List Bool)
    → trail_number vars (entries ++ more) ≤ trail_number vars entries

-- where a decision, with all behind it, gives way to an entry that has a reason, the number falls
abbrev pub FallsWhenTurned : Type 0
FallsWhenTurned =
    (vars : ℕ) (kept more : List Bool)
    → length kept < vars
    → trail_number vars (kept ++ false ∷ []) < trail_number vars (kept ++ true ∷ more)

-- the number is below 2^vars
abbrev pub StaysBelow : Type 0
StaysBelow = (vars : ℕ) (entries : List Bool) → trail_number vars entries < 2 ^ vars
