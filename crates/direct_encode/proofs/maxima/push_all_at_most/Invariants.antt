use Rattle.std.proofs.Common.{◌≡◌, ◌++◌, length}
use Rattle.core_forms.specs.WellFormed.{AreSound}
use Rattle.direct_encode.specs.Maxima.{all_at_most_clauses}
use Rattle.direct_encode.proofs.maxima.push_all_at_most.Given as goal

abbrev pub invariant-loop-a : goal.invariant-loop-a
invariant-loop-a l = record {
  sound : AreSound l.rest;
  written : l.clauses.items ++ all_at_most_clauses l.rest l.c ≡ l.initial.clauses.items ++ all_at_most_clauses l.initial.rest l.c;
}

abbrev pub decreases-loop-a : goal.decreases-loop-a
decreases-loop-a l = length l.rest
