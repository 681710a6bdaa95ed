use Rattle.std.proofs.Common.{length}
use Rattle.bee_text.specs.Gaps.{words_of}
use Rattle.drup_check.proofs.Spelled.{SpelledTo}
use Rattle.drup_check.proofs.words.read_clause.Given as goal

abbrev pub invariant-loop-word : goal.invariant-loop-word
invariant-loop-word l = SpelledTo l.vars (words_of l.fn.text) l.lits.items (words_of l.rest)

abbrev pub decreases-loop-word : goal.decreases-loop-word
decreases-loop-word l = length (words_of l.rest)
