use Rattle.std.proofs.Common.{◌≡◌, ◌++◌, true, map, length}
use Rattle.model_meaning.specs.declared.model.Stmt.{Stmt}
use Rattle.conflict_check.proofs.marking.mark_all.Given as goal

-- the marks, and those of the statements that are left, are all
abbrev pub invariant-loop-rest : goal.invariant-loop-rest
invariant-loop-rest l = l.out.items ++ map (λ (s : Stmt). true) l.rest ≡ l.fn.out.items ++ map (λ (s : Stmt). true) l.stmts

abbrev pub decreases-loop-rest : goal.decreases-loop-rest
decreases-loop-rest l = length l.rest
