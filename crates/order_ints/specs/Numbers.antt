-- The number that a declared name has under a valuation.
use Rattle.std.specs.Prelude.{List, ℤ, pos, map, if◌then◌else◌}
use Rattle.order_ints.specs.declared.order_int.MapValue.{MapValue}
use Rattle.order_ints.specs.declared.order_int.MapValue.TheVariants as values
use Rattle.order_ints.specs.Truth.{Valuation, atom_truth}
use Rattle.order_ints.specs.OrderValue.{value_of}

-- 0 or 1 for a Boolean, by its atom; an integer's value
abbrev pub number_of : Valuation → MapValue → ℤ
number_of σ (values.Bool a) = if atom_truth σ a then pos 1 else pos 0
number_of σ (values.Int a) = value_of σ a

-- the numbers that declared names have, one for each
abbrev pub numbers_of : Valuation → List MapValue → List ℤ
numbers_of σ entries = map (number_of σ) entries
