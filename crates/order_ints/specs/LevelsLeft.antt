-- What is left of a walk along the values of an integer.
use Rattle.std.specs.Prelude.{ℕ, ◌^◌, ◌<◌, ℤ, pos, ◌+ℤ◌, unsigned_abs, List, [], Option, Some, None}
use Rattle.order_ints.specs.declared.atom.Atom.{Atom}
use Rattle.order_ints.specs.OrderRange.{weights}
use Rattle.order_ints.specs.OrderLevels.{levels}

-- the next level, and those to which the remaining steps lead
abbrev pub levels_left : Option (ℤ × Atom) → List (Atom × ℕ) → List (ℤ × Atom)
levels_left None steps = []
levels_left (Some level) steps = levels level.0 level.1 steps

-- the values that are left are below 2 ^ 100 in absolute value
abbrev pub WithinLimits : Option (ℤ × Atom) → List (Atom × ℕ) → Type 0
WithinLimits None steps = Unit {0}
WithinLimits (Some level) steps =
    (unsigned_abs level.0 < 2 ^ 100) × (unsigned_abs (level.0 +ℤ pos (weights steps)) < 2 ^ 100)
