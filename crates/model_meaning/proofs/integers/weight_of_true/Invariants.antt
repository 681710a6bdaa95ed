use Rattle.std.proofs.Common.{◌≡◌, ◌*◌, ◌^◌, drop, pos, ◌+ℤ◌, neg_ℤ, ◌≤ℤ◌}
use Rattle.model_meaning.specs.Terms.{truths_of}
use Rattle.model_meaning.specs.Integers.{weight_of_true}
use Rattle.model_meaning.proofs.integers.weight_of_true.Given as goal

abbrev pub invariant-loop-i : goal.invariant-loop-i
invariant-loop-i l =
    record {
      sum : l.sum +ℤ weight_of_true (drop l.i l.coefficients) (truths_of l.values (drop l.i l.members)) ≡ weight_of_true l.coefficients (truths_of l.values l.members);
      low : neg_ℤ (pos (2 ^ 63 * l.i)) ≤ℤ l.sum;
      high : l.sum ≤ℤ pos (2 ^ 63 * l.i);
    }
