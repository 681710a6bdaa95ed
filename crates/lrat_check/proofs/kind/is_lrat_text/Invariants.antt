use Rattle.std.proofs.Common.{◌≡◌, length}
use Rattle.bee_text.specs.Lines.{lines_of}
use Rattle.sat_front.specs.Closed.{closed}
use Rattle.lrat_check.specs.Kinds.{are_hinted}
use Rattle.lrat_check.proofs.kind.is_lrat_text.Given as goal

abbrev pub invariant-loop-line : goal.invariant-loop-line
invariant-loop-line l = are_hinted (lines_of (closed l.text)) ≡ are_hinted (lines_of (closed l.rest))

abbrev pub decreases-loop-line : goal.decreases-loop-line
decreases-loop-line l = length (closed l.rest)
