use Rattle.std.proofs.Common.{◌↔◌, length}
use Rattle.model_meaning.specs.Limits.{DeclsInLimit}
use Rattle.model_meaning.proofs.limits.decls_in_limit.Given as goal

abbrev pub invariant-loop-rest : goal.invariant-loop-rest
invariant-loop-rest l = DeclsInLimit l.rest ↔ DeclsInLimit l.decls

abbrev pub decreases-loop-rest : goal.decreases-loop-rest
decreases-loop-rest l = length l.rest
