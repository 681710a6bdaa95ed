use Rattle.std.proofs.Common.{◌≡◌, ◌++◌, drop}
use Rattle.model_weight.specs.Linear.{scaled_truths, with_steps}
use Rattle.model_weight.proofs.members.scaled_truths.Given as goal

abbrev pub invariant-loop-i : goal.invariant-loop-i
invariant-loop-i l =
    l.shapes.items ++ with_steps (scaled_truths (drop l.i l.coefficients) (drop l.i l.members)) ≡ with_steps (scaled_truths l.coefficients l.members)
