-- Counts of faults, and when one rose.
use Rattle.std.specs.Prelude.{◌≡◌, ℕ, ◌+◌, ◌<◌, ◌⊎◌, min, Result, Ok, Err}
use Rattle.bee_outside.specs.declared.failed.Failed.{Failed}
use Rattle.bee_outside.specs.declared.reading.ShelfFault.{ShelfFault}
use Rattle.bee_outside.specs.declared.reading.ShelfFault.TheVariants as fault

-- the last value of a count, where it stands still
abbrev pub last_count : ℕ
last_count = 18446744073709551615

-- a count rose from one moment to a later one: it is greater, or it stands at its last value
abbrev pub Rose : ℕ → ℕ → Type 0
Rose before after = (before < after) ⊎ (after ≡ last_count)

-- the count that follows: one more, and none after the last value
abbrev pub next_count : ℕ → ℕ
next_count n = min (n + 1) last_count

-- the count after a call that had this answer: one more where it failed
abbrev pub counted : {X : Type 0} → Result X Failed → ℕ → ℕ
counted (Ok x) n = n
counted (Err f) n = next_count n

-- the count after a reading that had this answer: one more where a call failed, which ended it
abbrev pub read_count : {X : Type 0} → Result X ShelfFault → ℕ → ℕ
read_count (Ok x) n = n
read_count (Err fault.Memory) n = n
read_count (Err fault.Failed) n = next_count n

-- this holds of a reading that had this answer, unless a call failed
abbrev pub UnlessFailed : {X : Type 0} → Result X ShelfFault → Type 0 → Type 0
UnlessFailed (Ok x) p = p
UnlessFailed (Err fault.Memory) p = p
UnlessFailed (Err fault.Failed) p = Unit {0}
