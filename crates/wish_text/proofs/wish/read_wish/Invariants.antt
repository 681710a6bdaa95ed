use Rattle.std.proofs.Common.{length}
use Rattle.bee_text.specs.Lines.{lines_of}
use Rattle.wish_text.proofs.Reading.{ReadTo}
use Rattle.wish_text.proofs.wish.read_wish.Given as goal

abbrev pub invariant-loop-line : goal.invariant-loop-line
invariant-loop-line l = ReadTo l.decls l.text l.lines.rest l.lines.read

abbrev pub decreases-loop-line : goal.decreases-loop-line
decreases-loop-line l = length (lines_of l.lines.rest)
