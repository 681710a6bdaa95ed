use Rattle.std.proofs.Common.{◌≡◌, ◌+◌, ◌-◌, ◌++◌}
use Rattle.core_forms.specs.Shapes.{steps_of}
use Rattle.direct_encode.specs.Tables.{over_places, row_clauses, division_pair, div_mod_clauses}
use Rattle.direct_encode.proofs.divisions.push_rows.Given as goal

-- those so far and those of the places that are left are all
abbrev pub invariant-loop-i : goal.invariant-loop-i
invariant-loop-i l =
    l.clauses.items ++ over_places (row_clauses (division_pair l.a.int.now l.b.int.now l.q.int.now l.r.int.now) l.b.int.now) l.i (steps_of l.a.int.now + 1 - l.i) ≡ l.initial.clauses.items ++ div_mod_clauses l.a.int.now l.b.int.now l.q.int.now l.r.int.now
