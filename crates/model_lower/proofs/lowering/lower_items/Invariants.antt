use Rattle.std.proofs.Common.{length}
use Rattle.model_lower.specs.Lowering.{lowered_of}
use Rattle.model_lower.specs.Drafting.{lowered_so_far}
use Rattle.model_lower.proofs.Walking.{IsOnTheWay}
use Rattle.model_lower.proofs.lowering.lower_items.Given as goal

-- what is lowered so far, and the items that are left, are the whole
abbrev pub invariant-loop-item : goal.invariant-loop-item
invariant-loop-item l = IsOnTheWay (lowered_so_far l.draft) l.left (lowered_of l.fn.model)

abbrev pub decreases-loop-item : goal.decreases-loop-item
decreases-loop-item l = length l.left
