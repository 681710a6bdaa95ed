use Rattle.bee_outside.proofs.FaultLaws.{Rose-from_before, Rose-to_after, Rose-next}
use Rattle.bee_outside.proofs.laws.rise_law.Goals as goal

pub returns : goal.returns
returns c = record { earlier_calls = Rose-from_before; later_calls = Rose-to_after; next = Rose-next }
