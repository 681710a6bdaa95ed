use Rattle.std.proofs.Common.{List, length}
use Rattle.bumblebee_reader.specs.declared.syntax.Item.{Item}
use Rattle.bumblebee_reader.specs.Unread.{IsTaken}
use Rattle.typed_model.specs.Taken.{HasTaken}
use Rattle.model_texts.proofs.model_text.take_items.Given as goal

-- the items that were taken from the text are those that were typed
abbrev pub invariant-loop-typing : goal.invariant-loop-typing
invariant-loop-typing l = (items : List Item) × IsTaken l.text items l.items × HasTaken l.typing items

abbrev pub decreases-loop-typing : goal.decreases-loop-typing
decreases-loop-typing l = length l.items.bytes
