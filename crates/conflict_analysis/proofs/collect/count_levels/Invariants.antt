use Rattle.std.proofs.Common.{◌≡◌, length}
use Rattle.conflict_analysis.proofs.collect.count_levels.Given as goal

abbrev pub invariant-loop-l : goal.invariant-loop-l
invariant-loop-l g l = length l.levels.cells ≡ length l.fn.levels.cells
