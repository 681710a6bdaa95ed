use Rattle.std.proofs.Common.{length}
use Rattle.sat_front.specs.Closed.{closed}
use Rattle.proof_import.proofs.finder.found_lines.Given as goal

abbrev pub decreases-loop-line : goal.decreases-loop-line
decreases-loop-line l = length (closed l.rest)
