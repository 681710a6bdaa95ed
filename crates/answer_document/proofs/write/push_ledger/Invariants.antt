use Rattle.std.proofs.Common.{◌≡◌, ◌++◌, map, drop}
use Rattle.bee_text.specs.Lines.{join_lines}
use Rattle.ledger_text.specs.Steps.{step_text}
use Rattle.answer_document.proofs.write.push_ledger.Given as goal

-- what was written, and the lines that are left, are all that is to be written
abbrev pub invariant-loop-step : goal.invariant-loop-step
invariant-loop-step l =
    l.out.items ++ join_lines (map step_text (drop l.step-index l.ledger)) ≡ l.fn.out.items ++ join_lines (map step_text l.ledger)
