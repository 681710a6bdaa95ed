use Rattle.std.proofs.Common.{◌≡◌, ◌<◌, ◌^◌, ◌++◌}
use Rattle.std.specs.Prelude.{unsigned_abs}
use Rattle.std.specs.List.{AllByRecursion}
use Rattle.direct_encode.specs.Comparisons.{exceeding_clauses}
use Rattle.direct_encode.proofs.Beside.{exceeding_beside}
use Rattle.direct_encode.proofs.comparison.push_exceeding.Given as goal

-- those so far and those of the levels that are left are all
abbrev pub invariant-loop-value : goal.invariant-loop-value
invariant-loop-value l = record {
  written : l.clauses.items ++ exceeding_beside l.r l.a l.value-iterator ≡ l.initial.clauses.items ++ exceeding_clauses l.r l.a l.b;
  small : AllByRecursion (λ level. unsigned_abs level.0 < 2 ^ 100) l.value-iterator;
  same : l.walk.int.now ≡ l.a;
}
