use Rattle.std.proofs.Common.{◌≡◌, ◌+◌, ◌≤◌, ◌++◌, replicate, vec_len, vec_capacity, false}
use Rattle.clause_arena.proofs.references.push_marks.Given as goal

abbrev pub invariant-loop-k : goal.invariant-loop-k
invariant-loop-k l =
    (l.marks.items ≡ l.initial.marks.items ++ replicate l.k false) × (vec_len l.marks ≡ vec_len l.initial.marks + l.k) × (vec_len l.initial.marks + l.more ≤ vec_capacity l.marks)
