use Rattle.std.proofs.Common.{◌↔◌, length}
use Rattle.model_meaning.specs.Arguments.{arguments}
use Rattle.model_meaning.specs.Limits.{ArgumentsInLimit}
use Rattle.model_meaning.proofs.limits.arguments_in_limit.Given as goal

abbrev pub invariant-loop-rest : goal.invariant-loop-rest
invariant-loop-rest l = ArgumentsInLimit (arguments l.rest) ↔ ArgumentsInLimit (arguments l.lents)

abbrev pub decreases-loop-rest : goal.decreases-loop-rest
decreases-loop-rest l = length l.rest
