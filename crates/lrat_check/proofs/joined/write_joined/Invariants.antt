use Rattle.std.proofs.Common.{◌≡◌, ◌++◌, length}
use Rattle.bee_text.specs.Gaps.{words_of}
use Rattle.bee_text.specs.Words.{words_behind}
use Rattle.lrat_check.proofs.joined.write_joined.Given as goal

-- what is left, behind what was written
abbrev pub invariant-loop-word : goal.invariant-loop-word
invariant-loop-word l = l.first ++ words_behind (words_of l.behind) ≡ l.out.items ++ words_behind (words_of l.rest)

abbrev pub decreases-loop-word : goal.decreases-loop-word
decreases-loop-word l = length (words_of l.rest)
