use Rattle.std.proofs.Common.{◌≡◌, ◌++◌, map, drop}
use Rattle.bee_text.specs.Lines.{join_lines}
use Rattle.dimacs_out.specs.CompiledText.{clause_line}
use Rattle.dimacs_out.proofs.write.push_clauses.Given as goal

-- what was written, and the lines that are left, are all that is to be written
abbrev pub invariant-loop-clause : goal.invariant-loop-clause
invariant-loop-clause l =
    l.out.items ++ join_lines (map clause_line (drop l.clause-index l.clauses)) ≡ l.fn.out.items ++ join_lines (map clause_line l.clauses)
