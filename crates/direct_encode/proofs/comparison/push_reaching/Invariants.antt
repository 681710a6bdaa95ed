use Rattle.std.proofs.Common.{◌≡◌, ◌++◌}
use Rattle.direct_encode.specs.Comparisons.{reaching_clauses}
use Rattle.direct_encode.proofs.Beside.{reaching_beside}
use Rattle.direct_encode.proofs.comparison.push_reaching.Given as goal

-- those so far and those of the levels that are left are all
abbrev pub invariant-loop-value : goal.invariant-loop-value
invariant-loop-value l = record {
  written : l.clauses.items ++ reaching_beside l.r l.b l.value-iterator ≡ l.initial.clauses.items ++ reaching_clauses l.r l.a l.b;
  same : l.walk.int.now ≡ l.b;
}
