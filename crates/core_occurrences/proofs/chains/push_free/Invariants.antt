use Rattle.std.proofs.Common.{◌≡◌, ◌+◌, ◌≤◌, vec_len, vec_capacity}
use Rattle.core_occurrences.proofs.Added.{IsFreeing}
use Rattle.core_occurrences.proofs.chains.push_free.Given as goal

abbrev pub invariant-loop-k : goal.invariant-loop-k
invariant-loop-k l =
    IsFreeing l.initial.nodes.items l.nodes.items l.heads l.k × (vec_len l.nodes ≡ vec_len l.initial.nodes + l.k) × (vec_len l.initial.nodes + l.more ≤ vec_capacity l.nodes)
