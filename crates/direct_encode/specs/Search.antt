-- Where a value is found among levels.
use Rattle.std.specs.Prelude.{ℕ, ◌-◌, ◌<◌, ◌≤◌, List, [], ◌∷◌, length, slice_index_or, ℤ, pos}
use Rattle.std.specs.Prelude.{◌<ℤ◌, ◌≤ℤ◌}
use Rattle.std.proofs.Props.{props}
use Rattle.order_ints.specs.declared.atom.Atom.{Atom}
use Rattle.order_ints.specs.declared.atom.Atom.TheVariants.{False}
use Rattle.order_ints.specs.OrderRange.{AreRising}

-- the value of a level, by its place
abbrev pub value_of_level : List (ℤ × Atom) → ℕ → ℤ
value_of_level levels place = (slice_index_or levels place (pos 0, False)).0

-- the level before the place is below v, and the one at the place reaches it
abbrev pub IsReachedAt : List (ℤ × Atom) → ℤ → ℕ → Type 0
IsReachedAt levels v place =
    (place ≤ length levels) × (0 < place → value_of_level levels (place - 1) <ℤ v)
    × (place < length levels → v ≤ℤ value_of_level levels place)

-- that steps rise is a fact of at most one proof
pub rising_prop : (steps : List (Atom × ℕ)) → IsProp (AreRising steps)
rising_prop [] = hlevel props
rising_prop (s ∷ steps) = let rest = rising_prop steps in hlevel (rest, props)
