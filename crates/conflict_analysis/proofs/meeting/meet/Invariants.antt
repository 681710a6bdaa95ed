use Rattle.std.proofs.Common.{◌≡◌, ◌+◌, ◌≤◌, length, drop}
use Rattle.conflict_analysis.specs.Walking.{met_by, counts}
use Rattle.conflict_analysis.proofs.meeting.meet.Given as goal

abbrev pub invariant-loop-place : goal.invariant-loop-place
invariant-loop-place g l =
    let ls = l.lits in
    let es = (g.T.Reasons.trail l.source).entries in
    record {
      marks : met_by l.marks.cells l.over (drop l.place ls) ≡ met_by l.fn.marks.cells l.over ls;
      count : l.count + counts es l.level l.marks.cells l.over (drop l.place ls) ≡ counts es l.level l.fn.marks.cells l.over ls;
      small : l.count ≤ l.place;
      size : length l.marks.cells ≡ length l.fn.marks.cells;
    }
