use Rattle.std.proofs.Common.{◌≡◌, length}
use Rattle.model_meaning.specs.Terms.{numbers_of, truths_of}
use Rattle.model_meaning.specs.Lists.{differ_where}
use Rattle.model_meaning.proofs.lists.differ_where.Given as goal

abbrev pub invariant-loop-rest : goal.invariant-loop-rest
invariant-loop-rest l = differ_where (numbers_of l.values l.rest) (truths_of l.values l.tests) ≡ differ_where (numbers_of l.values l.members) (truths_of l.values l.conditions)

abbrev pub decreases-loop-rest : goal.decreases-loop-rest
decreases-loop-rest l = length l.rest
