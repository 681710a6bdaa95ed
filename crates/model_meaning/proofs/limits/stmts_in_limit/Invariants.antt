use Rattle.std.proofs.Common.{◌↔◌, length}
use Rattle.model_meaning.specs.Limits.{StmtsInLimit}
use Rattle.model_meaning.proofs.limits.stmts_in_limit.Given as goal

abbrev pub invariant-loop-rest : goal.invariant-loop-rest
invariant-loop-rest l = StmtsInLimit l.rest ↔ StmtsInLimit l.stmts

abbrev pub decreases-loop-rest : goal.decreases-loop-rest
decreases-loop-rest l = length l.rest
