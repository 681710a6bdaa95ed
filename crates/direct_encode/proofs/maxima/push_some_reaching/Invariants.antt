use Rattle.std.proofs.Common.{◌≡◌, ◌++◌}
use Rattle.direct_encode.specs.Walked.{walked}
use Rattle.direct_encode.specs.Maxima.{some_reaching_clauses}
use Rattle.direct_encode.proofs.Beside.{some_reaching_beside}
use Rattle.direct_encode.proofs.maxima.push_some_reaching.Given as goal

abbrev pub invariant-loop-value : goal.invariant-loop-value
invariant-loop-value l = record {
  written : l.clauses.items ++ some_reaching_beside l.ints l.value-iterator ≡ l.initial.clauses.items ++ some_reaching_clauses l.ints l.c;
  same : walked l.walks.items ≡ l.ints;
}
