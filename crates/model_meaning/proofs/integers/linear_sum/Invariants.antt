use Rattle.std.proofs.Common.{◌≡◌, ◌*◌, ◌^◌, drop, pos, ◌+ℤ◌, neg_ℤ, ◌≤ℤ◌}
use Rattle.model_meaning.specs.Terms.{numbers_of}
use Rattle.model_meaning.specs.Integers.{linear_sum}
use Rattle.model_meaning.proofs.integers.linear_sum.Given as goal

abbrev pub invariant-loop-i : goal.invariant-loop-i
invariant-loop-i l =
    record {
      sum : l.sum +ℤ linear_sum (drop l.i l.coefficients) (numbers_of l.values (drop l.i l.members)) ≡ linear_sum l.coefficients (numbers_of l.values l.members);
      low : neg_ℤ (pos (2 ^ 60 * l.i)) ≤ℤ l.sum;
      high : l.sum ≤ℤ pos (2 ^ 60 * l.i);
    }
