use Rattle.std.proofs.Common.{length}
use Rattle.state_rows.proofs.starts.+may_start.Given as goal

abbrev pub decreases-may_start : goal.decreases-may_start
decreases-may_start l = length l.cores.now
