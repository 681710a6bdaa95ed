use Rattle.std.proofs.Common.{◌≡◌, ◌++◌}
use Rattle.queens_mode.specs.Summary.{columns_line}
use Rattle.queens_mode.proofs.summary.push_columns.Given as goal

-- the columns in the rows that were met are written
abbrev pub invariant-loop-row : goal.invariant-loop-row
invariant-loop-row l = l.out.items ≡ l.fn.out.items ++ columns_line l.values l.row
