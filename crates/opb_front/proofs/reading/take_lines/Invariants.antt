use Rattle.std.proofs.Common.{◌≡◌, length}
use Rattle.opb_front.proofs.Taken.{LinesTo}
use Rattle.opb_front.proofs.reading.take_lines.Given as goal

abbrev pub invariant-loop-line : goal.invariant-loop-line
invariant-loop-line l = record { read : l.lines.read ≡ l.read; taken : LinesTo l.fn.draft l.text l.lines.rest l.read l.draft }

abbrev pub decreases-loop-line : goal.decreases-loop-line
decreases-loop-line l = length l.lines.rest
