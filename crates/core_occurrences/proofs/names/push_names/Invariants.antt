use Rattle.std.proofs.Common.{◌≡◌, ℕ, ◌+◌, ◌≤◌, length, vec_len, vec_capacity}
use Rattle.core_occurrences.specs.Bodies.{named_by}
use Rattle.core_occurrences.proofs.names.push_names.Given as goal

abbrev pub invariant-loop-k : goal.invariant-loop-k
invariant-loop-k l = record {
  same : (b : ℕ) → named_by l.names.items b ≡ named_by l.initial.names.items b;
  count : length l.names.items ≡ length l.initial.names.items + l.k;
  long : vec_len l.names ≡ vec_len l.initial.names + l.k;
  room : vec_len l.initial.names + l.more ≤ vec_capacity l.names;
}
