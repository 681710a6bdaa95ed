use Rattle.std.proofs.Common.{◌≡◌, ◌++◌, drop}
use Rattle.core_cost.specs.Relations.{AllFitInMemory}
use Rattle.core_forms.specs.Shapes.{numbers_of_steps}
use Rattle.core_forms.proofs.shapes.step_numbers.Given as goal

-- those so far and those of what is left are all
abbrev pub invariant-loop-a : goal.invariant-loop-a
invariant-loop-a l =
    AllFitInMemory l.numbers.items × (l.numbers.items ++ numbers_of_steps (drop l.a-index l.ints) ≡ numbers_of_steps l.ints)
