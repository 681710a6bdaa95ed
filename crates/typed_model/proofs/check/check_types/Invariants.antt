use Rattle.std.proofs.Common.{take}
use Rattle.typed_model.specs.Taken.{HasTaken}
use Rattle.typed_model.proofs.check.check_types.Given as goal

abbrev pub invariant-loop-item : goal.invariant-loop-item
invariant-loop-item l = HasTaken l.typing (take l.item-index l.syntax.items)
