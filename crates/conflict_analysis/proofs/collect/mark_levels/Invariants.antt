use Rattle.std.proofs.Common.{◌≡◌, ◌≢◌, length}
use Rattle.conflict_analysis.specs.declared.marks.Mark.TheVariants.{Blank}
use Rattle.conflict_analysis.specs.Marking.{mark_at}
use Rattle.conflict_analysis.proofs.collect.mark_levels.Given as goal

abbrev pub invariant-loop-var : goal.invariant-loop-var
invariant-loop-var g l = record {
  bottom : mark_at l.levels.cells 0 ≢ Blank;
  size : length l.levels.cells ≡ length l.fn.levels.cells;
}
