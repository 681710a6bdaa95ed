use Rattle.std.proofs.Common.{◌≡◌, length}
use Rattle.conflict_analysis.specs.Resolving.{IsWalking}
use Rattle.conflict_analysis.proofs.walk.walk.Given as goal

abbrev pub invariant-loop-ahead : goal.invariant-loop-ahead
invariant-loop-ahead g l = record {
  walking : IsWalking (g.T.Reasons.trail l.source) (g.T.Reasons.named l.source) (g.T.Reasons.named l.source l.conflict) l.marks.cells l.hints.items l.place l.ahead;
  size : length l.marks.cells ≡ length l.fn.marks.cells;
}

abbrev pub decreases-loop-ahead : goal.decreases-loop-ahead
decreases-loop-ahead g l = l.place
