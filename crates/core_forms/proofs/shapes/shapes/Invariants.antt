use Rattle.std.proofs.Common.{◌≡◌, ◌++◌, drop}
use Rattle.core_forms.specs.WellFormed.{AreSound}
use Rattle.core_forms.specs.Shapes.{shapes_of}
use Rattle.core_forms.proofs.shapes.shapes.Given as goal

-- those so far and those of what is left are all
abbrev pub invariant-loop-a : goal.invariant-loop-a
invariant-loop-a l = AreSound (drop l.a-index l.ints) × (l.shapes.items ++ shapes_of (drop l.a-index l.ints) ≡ shapes_of l.ints)
