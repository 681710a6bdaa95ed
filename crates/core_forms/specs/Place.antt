-- Which variables a core may have: from 1, and below a bound.
use Rattle.std.specs.Prelude.{ℕ, List, [], ◌∷◌}
use Rattle.order_ints.specs.declared.order_int.OrdInt.{OrdInt}
use Rattle.order_ints.specs.Place.{AtomsBelow}
use Rattle.order_ints.specs.OrderRange.{IntBelow}
use Rattle.core_forms.specs.declared.form.Core.{Core}
use Rattle.core_forms.specs.Contents.{ints_of, atoms_of}

-- the variables of each integer are from 1 and below n
abbrev pub IntsBelow : ℕ → List OrdInt → Type 0
IntsBelow n [] = Unit {0}
IntsBelow n (a ∷ ints) = IntBelow n a × IntsBelow n ints

-- the variables of a core are from 1 and below n
abbrev pub CoreBelow : ℕ → Core → Type 0
CoreBelow n core = AtomsBelow n (atoms_of core) × IntsBelow n (ints_of core)
