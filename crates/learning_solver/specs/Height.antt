-- The trail read as a binary number.
use Rattle.std.specs.Prelude.{ℕ, Bool, is_none, List, map}
use Rattle.literal_trail.specs.declared.entry.Entry.{Entry}
use Rattle.literal_trail.specs.Trail.{Trail}
use Rattle.search_laws.specs.TrailNumber.{trail_number}

-- which entries were decided
abbrev pub decided : List Entry → List Bool
decided entries = map (λ e. is_none e.reason) entries

-- the number of a trail
abbrev pub height : Trail → ℕ
height t = trail_number t.vars (decided t.entries)
