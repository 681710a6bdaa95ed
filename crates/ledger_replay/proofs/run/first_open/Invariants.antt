use Rattle.std.proofs.Common.{drop}
use Rattle.ledger_replay.specs.Due.{AreDue}
use Rattle.ledger_replay.proofs.run.first_open.Given as goal

-- the equations from i on are due
abbrev pub invariant-loop-i : goal.invariant-loop-i
invariant-loop-i l = AreDue l.state l.id (drop l.i l.run)
