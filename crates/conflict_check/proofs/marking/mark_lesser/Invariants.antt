use Rattle.std.proofs.Common.{◌≡◌, ◌++◌, length}
use Rattle.conflict_check.specs.Marks.{marks_before}
use Rattle.conflict_check.proofs.marking.mark_lesser.Given as goal

-- the marks, and those of the statements that are left, are all
abbrev pub invariant-loop-rest : goal.invariant-loop-rest
invariant-loop-rest l = l.out.items ++ marks_before l.number l.rest ≡ l.fn.out.items ++ marks_before l.number l.stmts

abbrev pub decreases-loop-rest : goal.decreases-loop-rest
decreases-loop-rest l = length l.rest
