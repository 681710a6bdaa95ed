use Rattle.std.proofs.Common.{◌+◌, length}
use Rattle.std.specs.Prelude.{reverse}
use Rattle.model_items.specs.Items.{items_of}
use Rattle.model_lower.specs.Lowering.{lowered_items, nothing_lowered}
use Rattle.model_lower.specs.Drafting.{lowered_so_far}
use Rattle.model_lower.proofs.Walking.{IsOnTheWay}
use Rattle.model_lower.proofs.owned.lower_each.Given as goal

-- what is lowered so far, and the items that are left, are the whole
abbrev pub invariant-loop-stmt : goal.invariant-loop-stmt
invariant-loop-stmt l =
    IsOnTheWay (lowered_so_far l.draft) (items_of l.rest (reverse l.left.items)) (lowered_items nothing_lowered (items_of l.decls l.fn.stmts.items))

abbrev pub decreases-loop-stmt : goal.decreases-loop-stmt
decreases-loop-stmt l = length l.rest + length l.left.items
