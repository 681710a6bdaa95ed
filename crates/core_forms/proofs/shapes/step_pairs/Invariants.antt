use Rattle.std.proofs.Common.{◌≡◌, ◌++◌, drop}
use Rattle.core_cost.specs.Relations.{PairsFitInMemory}
use Rattle.core_forms.specs.Shapes.{pairs_of_steps}
use Rattle.core_forms.proofs.shapes.step_pairs.Given as goal

-- those so far and those of what is left are all
abbrev pub invariant-loop-i : goal.invariant-loop-i
invariant-loop-i l =
    PairsFitInMemory l.pairs.items × (l.pairs.items ++ pairs_of_steps (drop l.i l.front) (drop l.i l.back) ≡ pairs_of_steps l.front l.back)
