use Rattle.std.proofs.Common.{◌≡◌, ◌++◌, map, drop}
use Rattle.bee_text.specs.Lines.{join_lines}
use Rattle.dimacs_out.specs.CompiledText.{ledger_line}
use Rattle.dimacs_out.proofs.write.push_ledger.Given as goal

-- what was written, and the lines that are left, are all that is to be written
abbrev pub invariant-loop-step : goal.invariant-loop-step
invariant-loop-step l =
    l.out.items ++ join_lines (map ledger_line (drop l.step-index l.ledger)) ≡ l.fn.out.items ++ join_lines (map ledger_line l.ledger)
