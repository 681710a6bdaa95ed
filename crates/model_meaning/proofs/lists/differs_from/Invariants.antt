use Rattle.std.proofs.Common.{◌≡◌, drop}
use Rattle.model_meaning.specs.Terms.{numbers_of}
use Rattle.model_meaning.specs.Lists.{differs_from}
use Rattle.model_meaning.proofs.lists.differs_from.Given as goal

abbrev pub invariant-loop-member : goal.invariant-loop-member
invariant-loop-member l =
    differs_from l.number (numbers_of l.values (drop l.member-index l.members)) ≡ differs_from l.number (numbers_of l.values l.members)
