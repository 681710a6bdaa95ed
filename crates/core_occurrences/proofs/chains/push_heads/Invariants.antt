use Rattle.std.proofs.Common.{◌≡◌, ◌+◌, ◌≤◌, ◌++◌, replicate, vec_len, vec_capacity}
use Rattle.core_occurrences.proofs.chains.push_heads.Given as goal

abbrev pub invariant-loop-k : goal.invariant-loop-k
invariant-loop-k l =
    (l.heads.items ≡ l.initial.heads.items ++ replicate l.k 0) × (vec_len l.heads ≡ vec_len l.initial.heads + l.k) × (vec_len l.initial.heads + l.more ≤ vec_capacity l.heads)
