-- Integers whose values are numbers of 64 bits.
use Rattle.std.specs.Prelude.{List, [], ◌∷◌, FitsSigned}
use Rattle.std.specs.Int.{w64}
use Rattle.order_ints.specs.declared.order_int.MapValue.{MapValue}
use Rattle.order_ints.specs.declared.order_int.MapValue.TheVariants as values
use Rattle.order_ints.specs.OrderRange.{low_of, high_of}

-- the least and the greatest value of an integer are numbers of 64 bits
abbrev pub IsShort : MapValue → Type 0
IsShort (values.Bool a) = Unit {0}
IsShort (values.Int a) = FitsSigned w64 (low_of a) × FitsSigned w64 (high_of a)

abbrev pub AreShort : List MapValue → Type 0
AreShort [] = Unit {0}
AreShort (v ∷ map) = IsShort v × AreShort map
