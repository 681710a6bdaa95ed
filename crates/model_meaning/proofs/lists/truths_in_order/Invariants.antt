use Rattle.std.proofs.Common.{◌≡◌, ◌≤◌, length, drop, map}
use Rattle.model_meaning.specs.Terms.{truths_of, as_number}
use Rattle.model_meaning.specs.Lists.{in_order}
use Rattle.model_meaning.proofs.lists.truths_in_order.Given as goal

abbrev pub invariant-loop-i : goal.invariant-loop-i
invariant-loop-i l =
    record {
      rest : in_order l.strict (map as_number (truths_of l.values (drop l.i l.left))) (map as_number (truths_of l.values (drop l.i l.right))) ≡ in_order l.strict (map as_number (truths_of l.values l.left)) (map as_number (truths_of l.values l.right));
      within : l.i ≤ length l.right;
    }
