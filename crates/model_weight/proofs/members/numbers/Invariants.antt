use Rattle.std.proofs.Common.{◌≡◌, ◌++◌, drop}
use Rattle.model_weight.specs.Linear.{numbers, with_steps}
use Rattle.model_weight.proofs.members.numbers.Given as goal

abbrev pub invariant-loop-member : goal.invariant-loop-member
invariant-loop-member l =
    l.shapes.items ++ with_steps (numbers l.decls (drop l.member-index l.members)) ≡ with_steps (numbers l.decls l.members)
