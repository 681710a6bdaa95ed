use Rattle.std.proofs.Common.{◌≡◌, ◌+◌, ◌≤◌, drop}
use Rattle.model_meaning.specs.Terms.{truths_of}
use Rattle.model_meaning.specs.Booleans.{count_true}
use Rattle.model_meaning.proofs.booleans.count_true.Given as goal

abbrev pub invariant-loop-member : goal.invariant-loop-member
invariant-loop-member l =
    record {
      count : l.count + count_true (truths_of l.values (drop l.member-index l.members)) ≡ count_true (truths_of l.values l.members);
      most : l.count ≤ l.member-index;
    }
