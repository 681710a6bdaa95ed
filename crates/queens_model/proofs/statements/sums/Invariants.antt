use Rattle.std.proofs.Common.{◌≡◌}
use Rattle.queens_model.specs.Queens.{sums_of}
use Rattle.queens_model.proofs.statements.sums.Given as goal

-- the statements of the rows that were met
abbrev pub invariant-loop-row : goal.invariant-loop-row
invariant-loop-row l = l.stmts.items ≡ sums_of l.row
