use Rattle.std.proofs.Common.{◌≡◌, length}
use Rattle.bee_text.specs.Gaps.{words_of}
use Rattle.lrat_check.specs.Kinds.{has_zero}
use Rattle.lrat_check.proofs.kind.has_zero.Given as goal

abbrev pub invariant-loop-word : goal.invariant-loop-word
invariant-loop-word l = has_zero (words_of l.text) ≡ has_zero (words_of l.rest)

abbrev pub decreases-loop-word : goal.decreases-loop-word
decreases-loop-word l = length (words_of l.rest)
