use Rattle.std.proofs.Common.{◌≡◌}
use Rattle.queens_model.specs.Queens.{members_of}
use Rattle.queens_model.proofs.statements.members.Given as goal

-- those of the rows that were met
abbrev pub invariant-loop-row : goal.invariant-loop-row
invariant-loop-row l = l.members.items ≡ members_of l.letter l.row
