use Rattle.std.proofs.Common.{ℕ, ◌+◌, ◌<◌, get_or}
use Rattle.fixpoint_queue.proofs.handing.are_increasing.Given as goal

abbrev pub invariant-loop-i : goal.invariant-loop-i
invariant-loop-i l = (j : ℕ) → j + 1 < l.i → get_or l.vars j 0 < get_or l.vars (j + 1) 0
