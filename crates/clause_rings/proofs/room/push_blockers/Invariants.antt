use Rattle.std.proofs.Common.{◌≡◌, ◌+◌, ◌≤◌, ◌++◌, replicate, vec_len, vec_capacity}
use Rattle.clause_rings.proofs.room.push_blockers.Given as goal

abbrev pub invariant-loop-k : goal.invariant-loop-k
invariant-loop-k l =
    (l.blockers.items ≡ l.initial.blockers.items ++ replicate l.k 0) × (vec_len l.blockers ≡ vec_len l.initial.blockers + l.k) × (vec_len l.initial.blockers + l.more ≤ vec_capacity l.blockers)
