use Rattle.std.proofs.Common.{◌≡◌, ◌<◌, ◌^◌, ◌++◌}
use Rattle.std.specs.Prelude.{unsigned_abs}
use Rattle.std.specs.List.{AllByRecursion}
use Rattle.direct_encode.specs.Comparisons.{differing_clauses}
use Rattle.direct_encode.proofs.Beside.{differing_beside}
use Rattle.direct_encode.proofs.comparison.push_differing.Given as goal

-- those so far and those of the levels that are left are all
abbrev pub invariant-loop-value : goal.invariant-loop-value
invariant-loop-value l = record {
  written : l.clauses.items ++ differing_beside l.r l.a l.b l.value-iterator ≡ l.initial.clauses.items ++ differing_clauses l.r l.a l.b;
  small : AllByRecursion (λ level. unsigned_abs level.0 < 2 ^ 100) l.value-iterator;
  same_a : l.walk_a.int.now ≡ l.a;
  same_b : l.walk_b.int.now ≡ l.b;
}
