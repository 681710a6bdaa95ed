use Rattle.std.proofs.Common.{◌≡◌, ◌≢◌, length}
use Rattle.conflict_analysis.specs.declared.marks.Mark.TheVariants.{Blank}
use Rattle.conflict_analysis.specs.Marking.{mark_at}
use Rattle.conflict_analysis.specs.Seeking.{IsSeeking, StayMarked, StayKept, steps_left}
use Rattle.conflict_analysis.proofs.minimiser.Minimiser.explore.Given as goal

abbrev pub invariant-loop-frame : goal.invariant-loop-frame
invariant-loop-frame g l = record {
  seeking : IsSeeking (g.T.Reasons.trail l.source).entries (g.T.Reasons.named l.source) l.met.cells l.self.marks.cells l.self.stack.items l.self.order.items;
  known : mark_at l.self.marks.cells l.root ≢ Blank;
  stay : StayMarked l.fn.self.marks.cells l.self.marks.cells;
  keep : StayKept l.fn.self.marks.cells l.self.marks.cells;
  size : length l.self.marks.cells ≡ length l.fn.self.marks.cells;
}

abbrev pub decreases-loop-frame : goal.decreases-loop-frame
decreases-loop-frame g l = steps_left l.self.marks.cells l.self.stack.items
