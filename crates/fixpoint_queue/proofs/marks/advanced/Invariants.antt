use Rattle.std.proofs.Common.{◌-◌, ◌≤◌, length}
use Rattle.fixpoint_queue.specs.Marks.{false_first}
use Rattle.fixpoint_queue.proofs.marks.advanced.Given as goal

abbrev pub invariant-loop-first : goal.invariant-loop-first
invariant-loop-first l = l.first ≤ false_first l.marks

abbrev pub decreases-loop-first : goal.decreases-loop-first
decreases-loop-first l = length l.marks - l.first
