use Rattle.std.proofs.Common.{length}
use Rattle.bee_text.specs.Gaps.{words_of}
use Rattle.sat_front.proofs.Lists.{ListsAlike}
use Rattle.sat_front.proofs.draft.ListedClauses.take_words.Given as goal

-- the words that are left list what all did
abbrev pub invariant-loop-word : goal.invariant-loop-word
invariant-loop-word l = ListsAlike l.vars l.fn.self (words_of l.fn.text) l.self (words_of l.rest)

abbrev pub decreases-loop-word : goal.decreases-loop-word
decreases-loop-word l = length (words_of l.rest)
