use Rattle.std.proofs.Common.{◌≡◌, drop}
use Rattle.model_meaning.specs.Terms.{numbers_of, truths_of}
use Rattle.model_meaning.specs.Lists.{differs_where}
use Rattle.model_meaning.proofs.lists.differs_where.Given as goal

abbrev pub invariant-loop-i : goal.invariant-loop-i
invariant-loop-i l =
    differs_where l.number (numbers_of l.values (drop l.i l.members)) (truths_of l.values (drop l.i l.conditions)) ≡ differs_where l.number (numbers_of l.values l.members) (truths_of l.values l.conditions)
