use Rattle.std.proofs.Common.{◌≡◌, ◌+◌, length}
use Rattle.model_meaning.specs.Arguments.{arguments}
use Rattle.model_meaning.specs.Sizes.{arguments_members}
use Rattle.model_meaning.proofs.limits.members_in_limit.Given as goal

abbrev pub invariant-loop-rest : goal.invariant-loop-rest
invariant-loop-rest l = arguments_members (arguments l.lents) + l.left ≡ arguments_members (arguments l.rest) + 16777216

abbrev pub decreases-loop-rest : goal.decreases-loop-rest
decreases-loop-rest l = length l.rest
