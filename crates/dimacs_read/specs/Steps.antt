-- Which steps of an integer can be read.
use Rattle.std.specs.Prelude.{ℕ, ◌≤◌, ◌^◌, ◌+◌, List}
use Rattle.order_ints.specs.declared.atom.Atom.{Atom}
use Rattle.order_ints.specs.OrderRange.{weights}
use Rattle.order_ints.specs.Place.{AtomBelow, StepsBelow}
use Rattle.dimacs_out.specs.CompiledText.{WeightsCount}

-- a variable up to the greatest that any text has, and a weight of at least 1
abbrev pub IsReadableStepWord : Atom × ℕ → Type 0
IsReadableStepWord s = AtomBelow (2 ^ 27 + 1) s.0 × (1 ≤ s.1) × (s.1 ≤ 2 ^ 31)

-- such steps, which together raise an integer by no more than its limits are apart
pub record AreReadableWeights (steps : List (Atom × ℕ)) : Type 0 where
  pub below : StepsBelow (2 ^ 27 + 1) steps
  pub weights_count : WeightsCount steps
  pub most : weights steps ≤ 2 ^ 31
