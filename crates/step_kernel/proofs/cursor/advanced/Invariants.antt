use Rattle.std.proofs.Common.{◌-◌, ◌≤◌, length}
use Rattle.step_kernel.specs.Cursor.{gone_first}
use Rattle.step_kernel.proofs.cursor.advanced.Given as goal

abbrev pub invariant-loop-first : goal.invariant-loop-first
invariant-loop-first l = l.first ≤ gone_first l.cores

abbrev pub decreases-loop-first : goal.decreases-loop-first
decreases-loop-first l = length l.cores - l.first
