use Rattle.std.proofs.Common.{◌≡◌, ◌++◌, map, drop}
use Rattle.bee_text.specs.Lines.{join_lines}
use Rattle.dimacs_out.specs.CompiledText.{entry_line}
use Rattle.dimacs_out.proofs.write.push_entries.Given as goal

-- what was written, and the lines that are left, are all that is to be written
abbrev pub invariant-loop-entry : goal.invariant-loop-entry
invariant-loop-entry l =
    l.out.items ++ join_lines (map entry_line (drop l.entry-index l.entries)) ≡ l.fn.out.items ++ join_lines (map entry_line l.entries)
