use Rattle.std.proofs.Common.{◌≡◌, ◌-◌, ◌++◌, take, length}
use Rattle.table_rules.specs.Rows.{row_of}
use Rattle.table_rules.proofs.rows.write_row.Given as goal

-- the values so far, and the row of the others that the rest of the number stands for, are the row
abbrev pub invariant-loop-value : goal.invariant-loop-value
invariant-loop-value l =
    take l.value-index l.values ++ row_of (length l.values - l.value-index) l.rest ≡ row_of (length l.values) l.fn.number
