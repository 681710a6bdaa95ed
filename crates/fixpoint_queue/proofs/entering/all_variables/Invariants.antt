use Rattle.std.proofs.Common.{take}
use Rattle.fixpoint_queue.specs.Standing.{AreAllVars}
use Rattle.fixpoint_queue.proofs.entering.all_variables.Given as goal

abbrev pub invariant-loop-core : goal.invariant-loop-core
invariant-loop-core l = AreAllVars l.lists.items (take l.core-index l.cores)
