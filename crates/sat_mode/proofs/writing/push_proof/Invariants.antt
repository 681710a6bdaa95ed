use Rattle.std.proofs.Common.{◌≡◌, ◌++◌, map, drop}
use Rattle.bee_text.specs.Lines.{join_lines}
use Rattle.proof_check.specs.Lines.{line_bytes}
use Rattle.sat_mode.proofs.writing.push_proof.Given as goal

-- what was written and what is left
abbrev pub invariant-loop-line : goal.invariant-loop-line
invariant-loop-line l = l.out.items ++ join_lines (map line_bytes (drop l.line-index l.lines)) ≡ l.initial.out.items ++ join_lines (map line_bytes l.lines)
