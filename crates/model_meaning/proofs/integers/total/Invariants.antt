use Rattle.std.proofs.Common.{◌≡◌, ◌*◌, ◌^◌, drop, pos, ◌+ℤ◌, neg_ℤ, ◌≤ℤ◌}
use Rattle.model_meaning.specs.Terms.{numbers_of}
use Rattle.model_meaning.specs.Integers.{total}
use Rattle.model_meaning.proofs.integers.total.Given as goal

abbrev pub invariant-loop-member : goal.invariant-loop-member
invariant-loop-member l =
    record {
      sum : l.sum +ℤ total (numbers_of l.values (drop l.member-index l.members)) ≡ total (numbers_of l.values l.members);
      low : neg_ℤ (pos (2 ^ 63 * l.member-index)) ≤ℤ l.sum;
      high : l.sum ≤ℤ pos (2 ^ 63 * l.member-index);
    }
