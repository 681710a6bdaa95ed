use Rattle.std.proofs.Common.{◌≡◌, map, take}
use Rattle.statement_lower.specs.Lines.{equal_core}
use Rattle.statement_lower.proofs.boolean_lines.equal_cores.Given as goal

abbrev pub invariant-loop-other : goal.invariant-loop-other
invariant-loop-other l = l.cores.items ≡ map (equal_core l.first) (take l.other-index l.others)
