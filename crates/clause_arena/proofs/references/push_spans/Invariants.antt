use Rattle.std.proofs.Common.{◌≡◌, ◌+◌, ◌≤◌, ◌++◌, replicate, vec_len, vec_capacity}
use Rattle.clause_arena.specs.Codes.{no_span}
use Rattle.clause_arena.proofs.references.push_spans.Given as goal

abbrev pub invariant-loop-k : goal.invariant-loop-k
invariant-loop-k l =
    (l.spans.items ≡ l.initial.spans.items ++ replicate l.k no_span) × (vec_len l.spans ≡ vec_len l.initial.spans + l.k) × (vec_len l.initial.spans + l.more ≤ vec_capacity l.spans)
