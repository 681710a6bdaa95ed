use Rattle.std.proofs.Common.{◌≡◌, ◌+◌, ◌≤◌, ◌++◌, replicate, vec_len, vec_capacity}
use Rattle.clause_arena.proofs.references.push_ids.Given as goal

abbrev pub invariant-loop-k : goal.invariant-loop-k
invariant-loop-k l =
    (l.ids.items ≡ l.initial.ids.items ++ replicate l.k 0) × (vec_len l.ids ≡ vec_len l.initial.ids + l.k) × (vec_len l.initial.ids + l.more ≤ vec_capacity l.ids)
