use Rattle.std.proofs.Common.{◌≡◌, ◌++◌, drop}
use Rattle.std.specs.List.{zip}
use Rattle.model_weight.specs.Statements.{truth_steps}
use Rattle.model_weight.proofs.lists.pairs_of_truths.Given as goal

abbrev pub invariant-loop-i : goal.invariant-loop-i
invariant-loop-i l =
    l.pairs.items ++ zip (truth_steps (drop l.i l.left)) (truth_steps (drop l.i l.right)) ≡ zip (truth_steps l.left) (truth_steps l.right)
