use Rattle.std.proofs.Common.{◌≡◌, ◌≤◌, length, drop}
use Rattle.model_meaning.specs.Terms.{numbers_of}
use Rattle.model_meaning.specs.Lists.{in_order}
use Rattle.model_meaning.proofs.lists.numbers_in_order.Given as goal

abbrev pub invariant-loop-i : goal.invariant-loop-i
invariant-loop-i l =
    record {
      rest : in_order l.strict (numbers_of l.values (drop l.i l.left)) (numbers_of l.values (drop l.i l.right)) ≡ in_order l.strict (numbers_of l.values l.left) (numbers_of l.values l.right);
      within : l.i ≤ length l.right;
    }
