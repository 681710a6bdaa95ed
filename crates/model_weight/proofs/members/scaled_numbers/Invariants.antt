use Rattle.std.proofs.Common.{◌≡◌, ◌++◌, drop}
use Rattle.model_weight.specs.Linear.{scaled_numbers, with_steps}
use Rattle.model_weight.proofs.members.scaled_numbers.Given as goal

abbrev pub invariant-loop-i : goal.invariant-loop-i
invariant-loop-i l =
    l.shapes.items ++ with_steps (scaled_numbers l.decls (drop l.i l.coefficients) (drop l.i l.members)) ≡ with_steps (scaled_numbers l.decls l.coefficients l.members)
