use Rattle.std.proofs.Common.{◌≡◌, map, take}
use Rattle.model_weight.specs.Shapes.{steps_in}
use Rattle.model_weight.proofs.lists.all_steps.Given as goal

abbrev pub invariant-loop-term : goal.invariant-loop-term
invariant-loop-term l = l.steps.items ≡ map (steps_in l.decls) (take l.term-index l.terms)
