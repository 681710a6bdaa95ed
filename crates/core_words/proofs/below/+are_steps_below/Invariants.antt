use Rattle.std.proofs.Common.{length}
use Rattle.core_words.proofs.below.+are_steps_below.Given as goal

abbrev pub decreases-are_steps_below : goal.decreases-are_steps_below
decreases-are_steps_below l = length l.steps.now
