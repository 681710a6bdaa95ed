use Rattle.std.proofs.Common.{◌≡◌, length}
use Rattle.proof_check.specs.Lines.{Each}
use Rattle.proof_check.specs.Lrat.{take_lines}
use Rattle.proof_import.specs.Assumed.{IsAddition}
use Rattle.proof_import.proofs.taken.take_all.Given as goal

-- what is left is taken from here as all lines are from the start, and where it only adds clauses, all lines do
abbrev pub invariant-loop-rest : goal.invariant-loop-rest
invariant-loop-rest l = (take_lines l.fn.checker l.lines ≡ take_lines l.checker l.rest) × (Each IsAddition l.rest → Each IsAddition l.lines)

abbrev pub decreases-loop-rest : goal.decreases-loop-rest
decreases-loop-rest l = length l.rest
