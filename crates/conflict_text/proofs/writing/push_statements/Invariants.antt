use Rattle.std.proofs.Common.{◌≡◌, ◌++◌, map, drop}
use Rattle.bee_text.specs.Lines.{join_lines}
use Rattle.conflict_text.specs.ConflictLines.{statement_line}
use Rattle.conflict_text.proofs.writing.push_statements.Given as goal

-- what was written, and the lines that are left, are all that is to be written
abbrev pub invariant-loop-number : goal.invariant-loop-number
invariant-loop-number l =
    l.out.items ++ join_lines (map statement_line (drop l.number-index l.statements)) ≡ l.fn.out.items ++ join_lines (map statement_line l.statements)
