use Rattle.std.proofs.Common.{length}
use Rattle.bumblebee_reader.specs.Unread.{IsTaken}
use Rattle.bumblebee_reader.proofs.model.read_whole.Given as goal

abbrev pub invariant-loop-items : goal.invariant-loop-items
invariant-loop-items l = IsTaken l.text l.items.items l.left

abbrev pub decreases-loop-items : goal.decreases-loop-items
decreases-loop-items l = length l.left.bytes
