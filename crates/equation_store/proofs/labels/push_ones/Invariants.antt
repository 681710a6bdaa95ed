use Rattle.std.proofs.Common.{◌≡◌, ◌+◌, ◌≤◌, ◌++◌, replicate, vec_len, vec_capacity}
use Rattle.equation_store.proofs.labels.push_ones.Given as goal

abbrev pub invariant-loop-k : goal.invariant-loop-k
invariant-loop-k l =
    (l.sizes.items ≡ l.initial.sizes.items ++ replicate l.k 1) × (vec_len l.sizes ≡ vec_len l.initial.sizes + l.k) × (vec_len l.initial.sizes + l.more ≤ vec_capacity l.sizes)
