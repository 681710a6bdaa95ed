use Rattle.std.proofs.Common.{◌≡◌, ◌++◌}
use Rattle.direct_encode.specs.Maxima.{at_most_clauses}
use Rattle.direct_encode.proofs.Beside.{at_most_beside}
use Rattle.direct_encode.proofs.maxima.push_at_most.Given as goal

abbrev pub invariant-loop-value : goal.invariant-loop-value
invariant-loop-value l = record {
  written : l.clauses.items ++ at_most_beside l.c l.value-iterator ≡ l.initial.clauses.items ++ at_most_clauses l.a l.c;
  same : l.walk.int.now ≡ l.c;
}
