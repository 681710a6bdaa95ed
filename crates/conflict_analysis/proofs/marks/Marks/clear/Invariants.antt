use Rattle.std.proofs.Common.{length, vec_len}
use Rattle.conflict_analysis.proofs.Touched.{IsClearing}
use Rattle.conflict_analysis.proofs.marks.Marks.clear.Given as goal

abbrev pub invariant-loop-v : goal.invariant-loop-v
invariant-loop-v l = IsClearing (length l.initial.self-inside.cells.items) l.self-inside.cells.items l.self-inside.touched.items

abbrev pub decreases-loop-v : goal.decreases-loop-v
decreases-loop-v l = vec_len l.self-inside.touched
