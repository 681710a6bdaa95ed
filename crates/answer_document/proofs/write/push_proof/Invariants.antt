use Rattle.std.proofs.Common.{◌≡◌, ◌++◌, map, drop}
use Rattle.bee_text.specs.Lines.{join_lines}
use Rattle.proof_check.specs.Lines.{line_bytes}
use Rattle.answer_document.proofs.write.push_proof.Given as goal

-- what was written, and the lines that are left, are all that is to be written
abbrev pub invariant-loop-line : goal.invariant-loop-line
invariant-loop-line l =
    l.out.items ++ join_lines (map line_bytes (drop l.line-index l.proof)) ≡ l.fn.out.items ++ join_lines (map line_bytes l.proof)
