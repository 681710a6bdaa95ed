use Rattle.std.proofs.Common.{◌≡◌, ◌+◌, ◌≤◌, ◌++◌}
use Rattle.std.specs.Prelude.{vec_len, vec_capacity}
use Rattle.order_ints.specs.Label.{own_labels}
use Rattle.equation_store.proofs.labels.push_own_labels.Given as goal

abbrev pub invariant-loop-k : goal.invariant-loop-k
invariant-loop-k l =
    (l.labels.items ≡ l.initial.labels.items ++ own_labels l.first l.k) × (vec_len l.labels ≡ vec_len l.initial.labels + l.k) × (vec_len l.initial.labels + l.more ≤ vec_capacity l.labels)
