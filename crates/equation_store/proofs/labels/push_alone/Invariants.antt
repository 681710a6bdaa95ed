use Rattle.std.proofs.Common.{◌≡◌, ◌+◌, ◌≤◌, ◌++◌, vec_len, vec_capacity}
use Rattle.std.specs.List.{range_with_len}
use Rattle.equation_store.proofs.labels.push_alone.Given as goal

abbrev pub invariant-loop-k : goal.invariant-loop-k
invariant-loop-k l =
    (l.next.items ≡ l.initial.next.items ++ range_with_len l.first l.k) × (vec_len l.next ≡ vec_len l.initial.next + l.k) × (vec_len l.initial.next + l.more ≤ vec_capacity l.next)
