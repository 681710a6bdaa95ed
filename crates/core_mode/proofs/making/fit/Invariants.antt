use Rattle.std.proofs.Common.{length}
use Rattle.conflict_text.specs.ConflictDocuments.{AreNumbers}
use Rattle.core_mode.proofs.making.fit.Given as goal

abbrev pub invariant-loop-number : goal.invariant-loop-number
invariant-loop-number l = AreNumbers l.left → AreNumbers l.fn.numbers

abbrev pub decreases-loop-number : goal.decreases-loop-number
decreases-loop-number l = length l.left
