use Rattle.std.proofs.Common.{length}
use Rattle.answer_import.specs.Imports.{AddsOnly}
use Rattle.answer_import.proofs.importing.adds_only.Given as goal

-- what is left decides
abbrev pub invariant-loop-rest : goal.invariant-loop-rest
invariant-loop-rest l = AddsOnly l.rest → AddsOnly l.lines

abbrev pub decreases-loop-rest : goal.decreases-loop-rest
decreases-loop-rest l = length l.rest
