use Rattle.std.proofs.Common.{length}
use Rattle.sat_front.specs.Closed.{closed}
use Rattle.answer_import.specs.Cutting.{IsCutTo}
use Rattle.answer_import.proofs.cut.cut_front.Given as goal

abbrev pub invariant-loop-line : goal.invariant-loop-line
invariant-loop-line l = IsCutTo l.text l.front l.rest

abbrev pub decreases-loop-line : goal.decreases-loop-line
decreases-loop-line l = length (closed l.rest)
