use Rattle.std.proofs.Common.{◌≡◌, ◌≢◌, ℕ, ◌<◌, [], length, get_or}
use Rattle.conflict_analysis.specs.declared.marks.Mark.TheVariants.{Blank, Met}
use Rattle.conflict_analysis.specs.Marking.{mark_at}
use Rattle.conflict_analysis.specs.Seeking.{IsSeeking, AreRoots, StayKept}
use Rattle.conflict_analysis.proofs.minimiser.Minimiser.seek.Given as goal

abbrev pub invariant-loop-var : goal.invariant-loop-var
invariant-loop-var g l = record {
  seeking : IsSeeking (g.T.Reasons.trail l.source).entries (g.T.Reasons.named l.source) l.met.cells l.self.marks.cells [] l.self.order.items;
  stack : l.self.stack.items ≡ [];
  roots : AreRoots (g.T.Reasons.trail l.source).entries l.met.cells l.self.marks.cells;
  known : (k : ℕ) → k < l.var-index → mark_at l.met.cells (get_or l.var-items k 0) ≡ Met → mark_at l.self.marks.cells (get_or l.var-items k 0) ≢ Blank;
  keep : StayKept l.fn.self.marks.cells l.self.marks.cells;
  size : length l.self.marks.cells ≡ length l.fn.self.marks.cells;
}
