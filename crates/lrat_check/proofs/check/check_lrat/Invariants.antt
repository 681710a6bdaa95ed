use Rattle.std.proofs.Common.{length}
use Rattle.sat_front.specs.Closed.{closed}
use Rattle.lrat_check.proofs.Checked.{Checked}
use Rattle.lrat_check.proofs.check.check_lrat.Given as goal

abbrev pub invariant-loop-line : goal.invariant-loop-line
invariant-loop-line l = Checked l.cnf l.text l.rest l.read l.store

abbrev pub decreases-loop-line : goal.decreases-loop-line
decreases-loop-line l = length (closed l.rest)
