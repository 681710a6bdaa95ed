use Rattle.std.proofs.Common.{◌≡◌, ◌+◌, ◌≤◌, ◌++◌, replicate, vec_len, vec_capacity}
use Rattle.literal_trail.specs.declared.tables.Value.TheVariants.{Free}
use Rattle.literal_trail.proofs.tables.push_free.Given as goal

abbrev pub invariant-loop-k : goal.invariant-loop-k
invariant-loop-k l =
    (l.values.items ≡ l.initial.values.items ++ replicate l.k Free) × (vec_len l.values ≡ vec_len l.initial.values + l.k) × (vec_len l.initial.values + l.more ≤ vec_capacity l.values)
