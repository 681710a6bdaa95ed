use Rattle.std.proofs.Common.{◌≡◌, length}
use Rattle.model_meaning.specs.Terms.{numbers_of}
use Rattle.model_meaning.specs.Lists.{all_differ}
use Rattle.model_meaning.proofs.lists.all_differ.Given as goal

abbrev pub invariant-loop-rest : goal.invariant-loop-rest
invariant-loop-rest l = all_differ (numbers_of l.values l.rest) ≡ all_differ (numbers_of l.values l.members)

abbrev pub decreases-loop-rest : goal.decreases-loop-rest
decreases-loop-rest l = length l.rest
