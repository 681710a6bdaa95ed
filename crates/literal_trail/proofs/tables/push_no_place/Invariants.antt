use Rattle.std.proofs.Common.{◌≡◌, ◌+◌, ◌≤◌, ◌++◌, replicate, vec_len, vec_capacity}
use Rattle.literal_trail.proofs.tables.push_no_place.Given as goal

abbrev pub invariant-loop-k : goal.invariant-loop-k
invariant-loop-k l =
    (l.places.items ≡ l.initial.places.items ++ replicate l.k 0) × (vec_len l.places ≡ vec_len l.initial.places + l.k) × (vec_len l.initial.places + l.more ≤ vec_capacity l.places)
