use Rattle.std.proofs.Common.{◌≡◌, ◌≤◌, take, length, vec_len, vec_capacity}
use Rattle.literal_trail.specs.Tables.{AreTables}
use Rattle.literal_trail.proofs.tables.keep_front.Given as goal

-- a front of the entries is left, with its tables
abbrev pub invariant-loop-entries : goal.invariant-loop-entries
invariant-loop-entries l =
    (l.entries.items ≡ take (vec_len l.entries) l.initial.entries.items) × (l.count ≤ vec_len l.entries) × (vec_len l.entries ≤ vec_len l.initial.entries)
    × AreTables l.entries.items l.values l.places × (length l.places ≡ length l.initial.places) × (vec_capacity l.entries ≡ vec_capacity l.initial.entries)

abbrev pub decreases-loop-entries : goal.decreases-loop-entries
decreases-loop-entries l = vec_len l.entries
