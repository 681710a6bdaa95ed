use Rattle.std.proofs.Common.{◌≡◌, ◌++◌, drop}
use Rattle.std.specs.List.{zip}
use Rattle.model_weight.specs.Shapes.{all_steps}
use Rattle.model_weight.proofs.lists.pairs_of_steps.Given as goal

abbrev pub invariant-loop-i : goal.invariant-loop-i
invariant-loop-i l =
    l.pairs.items ++ zip (all_steps l.decls (drop l.i l.left)) (all_steps l.decls (drop l.i l.right)) ≡ zip (all_steps l.decls l.left) (all_steps l.decls l.right)
