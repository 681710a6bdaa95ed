use Rattle.std.proofs.Common.{length}
use Rattle.line_texts.proofs.ReadTo.{ReadTo}
use Rattle.sat_front.specs.Closed.{closed}
use Rattle.sat_front.proofs.open_lines.read_open_lines.Given as goal

-- the lines that are read lead to what was told
abbrev pub invariant-loop-line : goal.invariant-loop-line
invariant-loop-line g l = ReadTo (g.T.LineTaker.next l.against) l.initial.taker (closed l.text) (closed l.rest) l.read l.taker

abbrev pub decreases-loop-line : goal.decreases-loop-line
decreases-loop-line g l = length (closed l.rest)
