use Rattle.std.proofs.Common.{◌≡◌, ◌++◌, drop}
use Rattle.bee_text.specs.Lines.{join_lines}
use Rattle.name_map.specs.ValueLines.{declared_lines}
use Rattle.answer_document.proofs.write.push_values.Given as goal

-- what was written, and the lines that are left, are all that is to be written
abbrev pub invariant-loop-i : goal.invariant-loop-i
invariant-loop-i l =
    l.out.items ++ join_lines (declared_lines (drop l.i l.decls) (drop l.i l.values)) ≡ l.fn.out.items ++ join_lines (declared_lines l.decls l.values)
