use Rattle.std.proofs.Common.{◌≡◌, ◌+◌, ◌-◌, ◌++◌}
use Rattle.core_forms.specs.Shapes.{steps_of}
use Rattle.direct_encode.specs.Tables.{over_places, row_clauses, division_pair}
use Rattle.direct_encode.proofs.divisions.push_row.Given as goal

-- those so far and those of the places that are left are all
abbrev pub invariant-loop-j : goal.invariant-loop-j
invariant-loop-j l =
    l.clauses.items ++ over_places (division_pair l.a.int.now l.b.int.now l.q.int.now l.r.int.now l.i) l.j (steps_of l.b.int.now + 1 - l.j) ≡ l.initial.clauses.items ++ row_clauses (division_pair l.a.int.now l.b.int.now l.q.int.now l.r.int.now) l.b.int.now l.i
