use Rattle.std.proofs.Common.{◌≡◌, ◌++◌, drop}
use Rattle.bee_text.specs.Lines.{join_lines}
use Rattle.conflict_text.specs.ConflictDocuments.{witness_lines}
use Rattle.conflict_text.proofs.writing.push_witnesses.Given as goal

-- what was written, and the lines that are left, are all that is to be written
abbrev pub invariant-loop-i : goal.invariant-loop-i
invariant-loop-i l =
    l.out.items ++ join_lines (witness_lines l.decls (drop l.i l.statements) (drop l.i l.assignments)) ≡ l.fn.out.items ++ join_lines (witness_lines l.decls l.statements l.assignments)
