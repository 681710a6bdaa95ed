use Rattle.std.proofs.Common.{◌≡◌, drop}
use Rattle.model_meaning.specs.Terms.{truths_of}
use Rattle.model_meaning.specs.Booleans.{all_true}
use Rattle.model_meaning.proofs.booleans.all_true.Given as goal

abbrev pub invariant-loop-member : goal.invariant-loop-member
invariant-loop-member l =
    all_true (truths_of l.values (drop l.member-index l.members)) ≡ all_true (truths_of l.values l.members)
