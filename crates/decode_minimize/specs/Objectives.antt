-- One objective: which values are better, and the atom that says that none is.
use Rattle.std.specs.Prelude.{ℕ, ◌+◌, Bool, ℤ, int_lt, List, [], ◌∷◌, FitsSigned, if◌then◌else◌}
use Rattle.std.specs.Int.{w64}
use Rattle.order_ints.specs.declared.atom.Atom.{Atom}
use Rattle.order_ints.specs.declared.order_int.OrdInt.{OrdInt}
use Rattle.order_ints.specs.OrderLevels.{values_of}
use Rattle.order_ints.specs.OrderRange.{low_of, high_of, IsBounded, IntBelow}
use Rattle.answer_document.specs.BoundAtoms.{at_least, at_most}
use Rattle.decode_minimize.specs.declared.objective.Direction.{Direction}
use Rattle.decode_minimize.specs.declared.objective.Direction.TheVariants.{Least, Greatest}

-- whether the first of two values is better
abbrev pub is_better_value : Direction → ℤ → ℤ → Bool
is_better_value Least v w = int_lt v w
is_better_value Greatest v w = int_lt w v

-- how many of the values are better
abbrev pub better_among : Direction → ℤ → List ℤ → ℕ
better_among direction v [] = 0
better_among direction v (w ∷ ws) = (if is_better_value direction w v then 1 else 0) + better_among direction v ws

-- how many values of an integer are
abbrev pub better_left : Direction → OrdInt → ℤ → ℕ
better_left direction a v = better_among direction v (values_of a)

-- the atom that says that an integer is no better than a number, and the one that says that it is no worse
abbrev pub bound_of : Direction → OrdInt → ℤ → Atom
bound_of Least a m = at_least a m
bound_of Greatest a m = at_most a m

abbrev pub no_worse_of : Direction → OrdInt → ℤ → Atom
no_worse_of Least a m = at_most a m
no_worse_of Greatest a m = at_least a m

-- an integer whose values are numbers of 64 bits, over variables below n
pub record IsObjective (n : ℕ) (a : OrdInt) : Type 0 where
  pub bounded : IsBounded a
  pub least : FitsSigned w64 (low_of a)
  pub greatest : FitsSigned w64 (high_of a)
  pub below : IntBelow n a
