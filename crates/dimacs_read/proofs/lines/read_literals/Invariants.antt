use Rattle.std.proofs.Common.{◌+◌, length}
use Rattle.dimacs_read.proofs.LiteralsRead.{LiteralsSoFar}
use Rattle.dimacs_read.proofs.lines.read_literals.Given as goal

abbrev pub invariant-loop-word : goal.invariant-loop-word
invariant-loop-word l = LiteralsSoFar (l.vars + 1) l.fn.words l.words l.literals.items

abbrev pub decreases-loop-word : goal.decreases-loop-word
decreases-loop-word l = length l.words
