use Rattle.std.proofs.Common.{◌≡◌, ◌+◌, ◌≤◌, drop}
use Rattle.queens_mode.specs.Summary.{equations_in}
use Rattle.queens_mode.proofs.summary.equations.Given as goal

-- those that were counted, and those that are left, are all; and no more were counted than were met
abbrev pub invariant-loop-line : goal.invariant-loop-line
invariant-loop-line l = (l.count + equations_in (drop l.line-index l.ledger) ≡ equations_in l.ledger) × (l.count ≤ l.line-index)
