use Rattle.std.proofs.Common.{◌≡◌, ◌+◌, ◌-◌, ◌++◌}
use Rattle.core_forms.specs.Shapes.{steps_of}
use Rattle.direct_encode.specs.Tables.{over_places, row_clauses, sum_pair, sum3_clauses}
use Rattle.direct_encode.proofs.sums.push_rows.Given as goal

-- those so far and those of the places that are left are all
abbrev pub invariant-loop-i : goal.invariant-loop-i
invariant-loop-i l =
    l.clauses.items ++ over_places (row_clauses (sum_pair l.a.int.now l.b.int.now l.c.int.now) l.b.int.now) l.i (steps_of l.a.int.now + 1 - l.i) ≡ l.initial.clauses.items ++ sum3_clauses l.a.int.now l.b.int.now l.c.int.now
